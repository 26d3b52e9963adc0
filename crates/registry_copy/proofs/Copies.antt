-- Lists of prefixes, copied from where they stand.
--     member-more        a prefix more is stored behind others
--     survivor-next      the same of a survivor that a loop looks at
--     member-next        the same of a prefix that a loop passes
--     backers-sets       one list behind another
--     set_before         a store before a run of stores may go first
--     next-sets          the bytes of a next state, in the two parts that they are stored in
--     members-fit        the bytes of a list find room, where its members do
--     listed-survivors, all-survivors   those that survive, by the loops that read both lists
--     next_sizes         what the size of a next state is summed of, and that it is within the room that it finds
--     next-refused, next-stored   what a writer of a next state leaves and answers
--     member-bytes       the bytes of a prefix that is read are those of the primitive at its place
use Prim.Native.Nat.{ℕ, suc, ◌+◌, ◌*◌, ◌≤◌, ◌<◌, ◌-◌, min}
use mathlib.Core.Path.{◌≡◌, refl, ap, sym, ◌∙◌}
use mathlib.Core.Bool.{Bool, true, false}
use mathlib.Core.List.{List, [], ◌∷◌, ◌++◌}
use native.Mathlib.Omega.{arith}
use native.Mathlib.Numerals.{add-one}
use borrow.Author.Tests.{leb-true, leb-false, le-leb, lt-leb}
use borrow.Rule.Slice.PartMut.{put_mid, mid_of}
use lib.Dec.{leb}
use lib.ListN.{length, set}
use lib.Seq.{sets, length-sets, set_comm}
use Rattle.laws.specs.Room.{room, put}
use Rattle.laws.proofs.Room.{put-sets, sets-append, stored, refused}
use Rattle.cesr.specs.declared.BasicPrefix.{BasicPrefix}
use Rattle.cesr.specs.Primitives.{read_matter, matter_bytes}
use Rattle.cesr.proofs.Matters.{length-matter}
use Rattle.events.specs.Members.{has}
use Rattle.events_tel.specs.declared.Listed.{Listed}
use Rattle.events_tel.specs.TelEvents.{members_in}
use Rattle.registry_members.specs.Updated.{survivors}
use Rattle.registry_rotation.proofs.Listed.{all_listed}
use Rattle.events_tel.specs.Configs.{view_configs}
use Rattle.codec_cursor.specs.declared.Cursor.{Cursor}
use Rattle.codec_cursor.specs.Readers.{read_if, read_prefix, times}
use Rattle.codec_cursor.specs.declared.Read.{Read}
use Rattle.codec.specs.Layout.{joined, section_bytes, prefix_bytes}
use Rattle.codec.proofs.Loops.{length-times}
use Rattle.codec_laws.proofs.CodesList.{joined-append, joined_snoc}
use Rattle.registry_bytes.proofs.StateWrites.{length-backers, length_front, part-stored, state-front}
use Rattle.registry_bytes.specs.StateBytes.{front_bytes}
use Rattle.registry_room.specs.declared.NextState.{NextState}
use Rattle.registry_room.specs.NextStates.{next_members, next_bytes}
use Rattle.registry_room.proofs.Counts.{left, survivors-kept, size-next}

length-members : (l : List BasicPrefix) → length (joined prefix_bytes l) ≡ 33 * length l
unfolding section_bytes
length-members l = omega (arith, length-backers l)

pub member-more : (b : List ℕ) (at : ℕ) (l : List BasicPrefix) (k : ℕ) (x : BasicPrefix) → k ≡ at + 33 * length l → k + 33 ≤ length b → put (sets b at (joined prefix_bytes l)) k (prefix_bytes x) ≡ sets b at (joined prefix_bytes (l ++ (x ∷ [])))
member-more b at l k x e h =
    put-sets (sets b at (joined prefix_bytes l)) k 33 (prefix_bytes x) (length-matter x.0) (rw length-sets h)
    ∙ rw (joined_snoc prefix_bytes l x, sets-append, length-members l, e)

pub member-bytes : (s : List ℕ) (c : Cursor) (r : Read BasicPrefix) → r ≡ read_prefix s c → matter_bytes (read_matter s c.at) ≡ prefix_bytes r.value
unfolding read_prefix read_if
member-bytes s c r e = rw e

pub members-fit : (s : List ℕ) (list : Listed) (at n : ℕ) (b : List ℕ) → n ≡ min list.count 16 → at + 33 * length (members_in s list) ≤ length b → at + 33 * n ≤ length b
members-fit s list at n b e h =
    omega (arith, h, ap length (all_listed s list n e), length-times read_prefix s list.start n)

-- those of a list that survive, by the loops that read both lists
pub listed-survivors : (held : List ℕ) (current : Listed) (s : List ℕ) (cuts : Listed) (n m : ℕ) → n ≡ min current.count 16 → m ≡ min cuts.count 16 → survivors (members_in s cuts) (members_in held current) ≡ survivors (times m read_prefix s cuts.start).value (times n read_prefix held current.start).value
listed-survivors held current s cuts n m e f = rw (all_listed s cuts m f, all_listed held current n e)

pub all-survivors : (held : List ℕ) (current : Listed) (s : List ℕ) (cuts : Listed) (n m : ℕ) → n ≡ min current.count 16 → m ≡ min cuts.count 16 → length (survivors (members_in s cuts) (members_in held current)) ≡ length (survivors (times m read_prefix s cuts.start).value (times n read_prefix held current.start).value)
all-survivors held current s cuts n m e f = ap length (listed-survivors held current s cuts n m e f)

-- a survivor that a loop looks at
pub survivor-next : (cuts : List BasicPrefix) (s : List ℕ) (start : Cursor) (i : ℕ) (c : Cursor) (r : Read BasicPrefix) (t : Bool) → c ≡ (times i read_prefix s start).next → r ≡ read_prefix s c → t ≡ has r.value cuts → (b : List ℕ) (n : ℕ) → n ≡ length (left cuts s start i) → t ≡ false → 1 + 33 * n + 33 ≤ length b → put (sets b 1 (joined prefix_bytes (left cuts s start i))) (1 + 33 * n) (matter_bytes (read_matter s c.at)) ≡ sets b 1 (joined prefix_bytes (left cuts s start (i + 1)))
survivor-next cuts s start i c r t e f g b n q h room =
    rw (member-bytes s c r f, survivors-kept cuts s start i c r t e f g h)
    (member-more b 1 (left cuts s start i) (1 + 33 * n) r.value (omega arith) room)

-- a prefix that a loop passes
pub member-next : (s : List ℕ) (start : Cursor) (b : List ℕ) (at i : ℕ) (c : Cursor) → c ≡ (times i read_prefix s start).next → at + 33 * i + 33 ≤ length b → put (sets b at (joined prefix_bytes (times i read_prefix s start).value)) (at + 33 * i) (matter_bytes (read_matter s c.at)) ≡ sets b at (joined prefix_bytes (times (i + 1) read_prefix s start).value)
unfolding times
member-next s start b at i c e h =
    let l = (times i read_prefix s start).value in
    let k : at + 33 * i ≡ at + 33 * length l = omega (arith, length-times read_prefix s start i) in
    rw (member-bytes s c (read_prefix s c) refl, member-more b at l (at + 33 * i) (read_prefix s c).value k h, add-one, e)

pub backers-sets : (b : List ℕ) (u v : List BasicPrefix) → sets (sets b 1 (joined prefix_bytes u)) (1 + 33 * length u) (joined prefix_bytes v) ≡ sets b 1 (joined prefix_bytes (u ++ v))
backers-sets b u v = rw (joined-append prefix_bytes u v, sets-append, length-members u)

pub set_before : (l : List ℕ) (i at : ℕ) (vs : List ℕ) (x : ℕ) → i < at → set (sets l at vs) i x ≡ sets (set l i x) at vs
set_before l i at [] x h = refl
set_before l i at (v ∷ vs) x h =
    set_before (set l at v) i (suc at) vs x (omega arith)
    ∙ ap (λ (m : List ℕ). sets m (suc at) vs) (set_comm l at i v x (λ e. omega arith))

module _ (held s : List ℕ) (p : NextState) where
  abbrev front : List ℕ
  front = front_bytes (read_matter held p.id) (read_matter held p.issuer) p.sn (read_matter s p.latest) p.toad.0 (view_configs p.configs)

  front-next : length front ≡ 120 + length (view_configs p.configs)
  front-next =
      length_front (read_matter held p.id) (read_matter held p.issuer) p.sn (read_matter s p.latest) p.toad.0 (view_configs p.configs)

  -- a next state that finds room, by its parts
  pub next_sizes : (l : List ℕ) → true ≡ leb (length (next_bytes held s p)) (length l) → (length (next_bytes held s p) ≡ 121 + length (view_configs p.configs) + 33 * length (next_members held s p)) × (length (next_bytes held s p) ≤ length l)
  next_sizes l h = (size-next held s p, leb-true (length (next_bytes held s p)) (length l) (sym h))

  pub next-sets : (b : List ℕ) (k : ℕ) → k ≡ 120 + length (view_configs p.configs) → k ≤ length b → sets (put b 0 front) k (section_bytes prefix_bytes (next_members held s p)) ≡ sets b 0 (next_bytes held s p)
  unfolding next_bytes
  next-sets b k e h =
      let section = section_bytes prefix_bytes (next_members held s p) in
      let g : k ≡ 0 + length front = omega (arith, front-next) in
      ap (λ (m : List ℕ). sets m k section) (put-sets b 0 k front (front-next ∙ sym e) (omega arith))
      ∙ ap (λ (j : ℕ). sets (sets b 0 front) j section) g
      ∙ sym (sets-append b 0 front section)
      ∙ ap (sets b 0) (sym (state-front (read_matter held p.id) (read_matter held p.issuer) p.sn (read_matter s p.latest) p.toad.0 (view_configs p.configs) (next_members held s p)))

  pub next-refused : (l : List ℕ) → false ≡ leb (length (next_bytes held s p)) (length l) → (false ≡ room l 0 (length (next_bytes held s p))) × (l ≡ put l 0 (next_bytes held s p))
  next-refused l h =
      let bytes = next_bytes held s p in
      let short = leb-false (length bytes) (length l) (sym h) in
      refused l 0 (length bytes) bytes refl (lt-leb (0 + length bytes) (length l) (omega (arith, short)))

  -- what stands before the backers, then their section in the rest of the bytes
  pub next-stored : (l o m : List ℕ) (k : ℕ) → k ≡ 5 + length (view_configs p.configs) → true ≡ leb (length (next_bytes held s p)) (length l) → o ≡ put l 0 front → length o ≡ length l → m ≡ sets (mid_of (115 + k) (length o - (115 + k)) o) 0 (section_bytes prefix_bytes (next_members held s p)) → (true ≡ room l 0 (length (next_bytes held s p))) × (put_mid (115 + k) (length o - (115 + k)) o m ≡ put l 0 (next_bytes held s p))
  next-stored l o m k e h f g q =
      let fits = next_sizes l h in
      let bytes = next_bytes held s p in
      let section = section_bytes prefix_bytes (next_members held s p) in
      let j : 115 + k ≡ 120 + length (view_configs p.configs) = omega (arith, e) in
      let w : put_mid (115 + k) (length o - (115 + k)) o m ≡ sets l 0 bytes = part-stored (115 + k) o m section (omega arith) q ∙ ap (λ (x : List ℕ). sets x (115 + k) section) f ∙ next-sets l (115 + k) j (omega arith) in
      stored l 0 (length bytes) bytes _ refl (le-leb (0 + length bytes) (length l) (omega (arith, fits))) w
