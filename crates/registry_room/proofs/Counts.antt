-- The members of a next state, counted.
--     left                           those that survive of so many of a list
--     survivors-kept, survivors-cut  one member more is looked at, and is not cut, or is
--     count_kept, count_cut          how many survive then
--     survivors-grow                 no fewer survive of more members
--     length-next                    how many members there are then
--     counted, few-next, most-next   how many members there are, by how many survive; at most 32; and no more than are held and added
--     size-next                      how many bytes a next state has
--     sized                          the bounds of what its size is summed of, and the sum
use Prim.Native.Nat.{ℕ, zero, suc, ◌+◌, ◌*◌, ◌≤◌, min}
use mathlib.Core.Path.{◌≡◌, refl, ◌∙◌}
use mathlib.Core.Bool.{Bool, true, false, cond}
use mathlib.Core.List.{List, [], ◌∷◌, ◌++◌}
use native.Mathlib.Omega.{arith}
use native.Mathlib.Numerals.{add-one}
use native.Mathlib.Decide.{ℕ_discrete}
use lib.ListN.{length, length-append}
use Rattle.cesr.specs.declared.BasicPrefix.{BasicPrefix}
use Rattle.cesr.specs.Primitives.{read_matter}
use Rattle.events.specs.Members.{has}
use Rattle.events_tel.specs.declared.Listed.{Listed}
use Rattle.events_tel.specs.Configs.{view_configs}
use Rattle.events_tel.specs.TelEvents.{members_in}
use Rattle.codec_cursor.specs.declared.Cursor.{Cursor}
use Rattle.codec_cursor.specs.Readers.{read_prefix, times}
use Rattle.codec_cursor.specs.declared.Read.{Read}
use Rattle.codec.proofs.Loops.{length-times}
use Rattle.registry_bytes.proofs.StateWrites.{few-configs, length-state}
use Rattle.registry_members.specs.Updated.{survivors, updated_members}
use Rattle.registry_members.proofs.Survivors.{survivors-snoc, survivors-fewer}
use Rattle.registry_room.specs.declared.NextState.{NextState}
use Rattle.registry_room.specs.NextStates.{next_members, next_bytes}

module _ (cuts : List BasicPrefix) (s : List ℕ) (start : Cursor) where
  abbrev pub left : ℕ → List BasicPrefix
  left i = survivors cuts (times i read_prefix s start).value

  module _ (i : ℕ) (c : Cursor) (r : Read BasicPrefix) (t : Bool) (e : c ≡ (times i read_prefix s start).next) (f : r ≡ read_prefix s c) (g : t ≡ has r.value cuts) where
    more : left (i + 1) ≡ cond t (left i) (left i ++ (r.value ∷ []))
    unfolding times
    more = rw (add-one, ← e, ← f, g) (survivors-snoc cuts (times i read_prefix s start).value r.value)

    pub survivors-kept : t ≡ false → left (i + 1) ≡ left i ++ (r.value ∷ [])
    survivors-kept h = more ∙ rw h

    pub survivors-cut : t ≡ true → left (i + 1) ≡ left i
    survivors-cut h = more ∙ rw h

    pub count_kept : (n : ℕ) → n ≡ length (left i) → t ≡ false → n + 1 ≡ length (left (i + 1))
    count_kept n q h = rw (survivors-kept h, length-append, q)

    pub count_cut : (n : ℕ) → n ≡ length (left i) → t ≡ true → n ≡ length (left (i + 1))
    count_cut n q h = rw (survivors-cut h) q

  pub survivors-grow : (n i : ℕ) → i ≤ n → length (left i) ≤ length (left n)
  unfolding times
  survivors-grow zero zero b = omega arith
  survivors-grow zero (suc i) b = absurd (omega arith)
  survivors-grow (suc n) i b = go (ℕ_discrete i (suc n)) (survivors-grow n i)
    where
      x : BasicPrefix
      x = (read_prefix s (times n read_prefix s start).next).value

      more : (t : Bool) → length (left n) ≤ length (cond t (left n) (left n ++ (x ∷ [])))
      more true = omega arith
      more false = rw length-append (omega arith)

      go : Dec (i ≡ suc n) → (i ≤ n → length (left i) ≤ length (left n)) → length (left i) ≤ length (left (suc n))
      go (yes e) less = rw e (omega arith)
      go (no d) less =
          let h = more (has x cuts) in
          let k = less (omega arith) in
          rw (survivors-snoc cuts (times n read_prefix s start).value x) (omega arith)

length-listed : (s : List ℕ) (l : Listed) → length (members_in s l) ≡ min l.count 16
unfolding members_in
length-listed s l = length-times read_prefix s l.start (min l.count 16)

few-left : (held : List ℕ) (current : Listed) (s : List ℕ) (cuts : Listed) (n : ℕ) → n ≡ length (survivors (members_in s cuts) (members_in held current)) → n ≤ 16
few-left held current s cuts n e = omega (arith, survivors-fewer (members_in s cuts) (members_in held current), length-listed held current)

module _ (held s : List ℕ) (p : NextState) where
  pub length-next : length (next_members held s p) ≡ length (survivors (members_in s p.cuts) (members_in held p.current)) + length (members_in s p.additions)
  unfolding next_members updated_members
  length-next = length-append (survivors (members_in s p.cuts) (members_in held p.current)) (members_in s p.additions)

  pub counted : (u v : ℕ) → u ≡ length (survivors (members_in s p.cuts) (members_in held p.current)) → v ≡ min p.additions.count 16 → (u + v ≡ length (next_members held s p)) × (u + v ≤ 32)
  counted u v e f =
      let g = few-left held p.current s p.cuts u e in
      (omega (arith, length-next, length-listed s p.additions), omega arith)

  pub few-next : length (next_members held s p) ≤ 32
  few-next =
      let n = counted (length (survivors (members_in s p.cuts) (members_in held p.current))) (min p.additions.count 16) refl refl in
      omega (arith, n.0, n.1)

  pub most-next : (u v : ℕ) → u ≡ min p.current.count 16 → v ≡ min p.additions.count 16 → length (next_members held s p) ≤ u + v
  most-next u v e f =
      omega (arith, length-next, length-listed s p.additions, survivors-fewer (members_in s p.cuts) (members_in held p.current), length-listed held p.current)

  pub size-next : length (next_bytes held s p) ≡ 121 + length (view_configs p.configs) + 33 * length (next_members held s p)
  unfolding next_bytes
  size-next =
      length-state (read_matter held p.id) (read_matter held p.issuer) p.sn (read_matter s p.latest) p.toad.0 (view_configs p.configs) (next_members held s p)

  pub sized : (u v k : ℕ) → u ≡ length (survivors (members_in s p.cuts) (members_in held p.current)) → v ≡ min p.additions.count 16 → k ≡ length (view_configs p.configs) → length p.configs.codes ≡ 8 → (u + v ≤ 32) × ((k ≤ 8) × (121 + k + 33 * (u + v) ≡ length (next_bytes held s p)))
  sized u v k e f g full =
      let n = counted u v e f in
      (n.1, (omega (arith, few-configs p.configs full), omega (arith, n.0, size-next)))
