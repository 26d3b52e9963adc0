-- The registries of an image, as they are checked one by one.
--     pass-registries     each passes exactly where all keep the rules of one registry and no two have one id
--     rules-registries    so they keep the reading rules that speak of registries alone
use Prim.Native.Nat.{ℕ, zero, suc, ◌+◌, ◌<◌, ◌≤◌}
use mathlib.Core.Path.{◌≡◌, refl, sym, ap, ◌∙◌}
use mathlib.Core.Bool.{Bool, true, false, not, ◌&&◌, and-false}
use mathlib.Core.List.{List, [], ◌∷◌, ◌++◌, map, map-append}
use native.Mathlib.Numerals.{add-one}
use native.Mathlib.Omega.{arith}
use borrow.Author.Tests.{leb-true, leb-false}
use lib.Dec.{leb}
use lib.ListN.{length, length-append}
use Rattle.cesr.specs.Primitives.{eq_said}
use Rattle.cesr.specs.declared.Said.{Said}
use Rattle.codec_cursor.specs.declared.Cursor.{Cursor}
use Rattle.codec_cursor.specs.Readers.{starting, times}
use Rattle.codec_cursor.specs.declared.Read.{Read}
use Rattle.codec.specs.Layout.{all}
use Rattle.codec_laws.proofs.CodesList.{all_snoc}
use Rattle.registry_state.specs.States.{Registry, view_registry, read_registry, well_registry}
use Rattle.registry_state.specs.declared.RegistryState.{RegistryState}
use Rattle.registry_state.proofs.StickyState.{sticky-registry}
use Rattle.ledger_registry_rules.specs.ReadingRules.{sound_registry}
use Rattle.ledger_image.specs.Tables.{has, distinct}
use Rattle.ledger_image.specs.Ledgers.{holds, id_of, keeps_layout, keeps_rules, registry_rules}
use Rattle.ledger_image.specs.Steps.{held_now}
use Rattle.ledger_image.proofs.Rules.{said-test}
use Rattle.ledger_image.specs.Images.{wide_count, wide_section, read_registries}
use Rattle.ledger_image_check.specs.Checks.{id_in, registries_pass, section_passes, Passed}
use Rattle.ledger_image_rows_check.proofs.OneMore.{distinct_snoc}

-- the rules that registries keep, together
abbrev pub apart_and_sound : List Registry → Bool
apart_and_sound gs = all sound_registry gs && distinct eq_said (map id_in gs)

one_more : (gs : List Registry) (g : Registry) → apart_and_sound (gs ++ (g ∷ [])) ≡ (apart_and_sound gs && (sound_registry g && not (has eq_said g.id (map id_in gs))))
one_more gs g =
    rw (all_snoc sound_registry gs g, map-append id_in gs (g ∷ []), distinct_snoc eq_said said-test (map id_in gs) g.id)
    (go (all sound_registry gs) (sound_registry g) (distinct eq_said (map id_in gs)) (not (has eq_said g.id (map id_in gs))))
  where
    go : (a x d h : Bool) → ((a && x) && (d && h)) ≡ ((a && d) && (x && h))
    go false x d h = refl
    go true true d h = refl
    go true false d h = sym (and-false d)

pub pass-registries : (s : List ℕ) (c : Cursor) (n : ℕ) → (times n read_registry s c).next.ok ≡ true → registries_pass s c n ≡ apart_and_sound (times n read_registry s c).value
unfolding times registries_pass all distinct
pass-registries s c zero h = refl
pass-registries s c (suc n) h =
    let r = times n read_registry s c in
    let g = read_registry s r.next in
    let before = pass-registries s c n (sticky-registry.before s r.next h) in
    rw (before, h) (sym (one_more r.value g.value))

-- where the loop over the registries stands: behind i of them, with their ids, and each of them passed
pub record Turned (s : List ℕ) (c : Cursor) (i : ℕ) (d : Cursor) (l : List Said) : Type 0 where
  pub at : d ≡ (times i read_registry s c).next
  pub ids : l ≡ map id_in (times i read_registry s c).value
  pub size : length l ≡ i
  pub pass : registries_pass s c i ≡ true

-- a registry that is there keeps to its layout, so only its own rules are left to test
left-to-test : (o well rules fresh : Bool) → (o ≡ true → well ≡ true) → (o && ((well && rules) && fresh)) ≡ (o && (rules && fresh))
left-to-test false well rules fresh h = refl
left-to-test true well rules fresh h = rw (h refl)

times_more : (s : List ℕ) (c : Cursor) (i : ℕ) (g : Registry) (e : Cursor) → record { value = g; next = e } ≡ read_registry s (times i read_registry s c).next → times (i + 1) read_registry s c ≡ record { value = (times i read_registry s c).value ++ (g ∷ []); next = e }
unfolding times
times_more s c i g e h = rw (add-one, ← h)

pass-more : (s : List ℕ) (c : Cursor) (i : ℕ) (g : Registry) (e : Cursor) → record { value = g; next = e } ≡ read_registry s (times i read_registry s c).next → registries_pass s c (i + 1) ≡ (registries_pass s c i && (e.ok && (sound_registry g && not (has eq_said g.id (map id_in (times i read_registry s c).value)))))
unfolding registries_pass
pass-more s c i g e h = rw (add-one, ← h)

-- where one does not pass, those that stand behind it do not change that
stays-failed : (s : List ℕ) (c : Cursor) (i n : ℕ) → i ≤ n → registries_pass s c i ≡ false → registries_pass s c n ≡ false
unfolding registries_pass
stays-failed s c i zero h f = let e : i ≡ 0 = omega arith in rw e at f
stays-failed s c i (suc n) h f = go (λ k. stays-failed s c i n k f) (leb i n) refl
  where
    go : (i ≤ n → registries_pass s c n ≡ false) → (t : Bool) → leb i n ≡ t → registries_pass s c (suc n) ≡ false
    go before true e = rw (before (leb-true i n e))
    go before false e = let b = leb-false i n e in let k : i ≡ suc n = omega (arith, b) in rw k at f

-- one registry more, that is read, with what its tests say
module _ (s : List ℕ) (c : Cursor) (i : ℕ) (d : Cursor) (l : List Said) (t : Turned s c i d l)
    (g : RegistryState) (e : Cursor) (q : record { value = view_registry g; next = e } ≡ read_registry s d) (w : e.ok ≡ true → well_registry g ≡ true)
    (known sound : Bool) (k : known ≡ has eq_said g.id l) (v : sound ≡ (well_registry g && sound_registry (view_registry g))) where
  here : record { value = view_registry g; next = e } ≡ read_registry s (times i read_registry s c).next
  here = q ∙ ap (read_registry s) t.at

  tested : registries_pass s c (i + 1) ≡ (e.ok && (sound && not known))
  tested = rw (pass-more s c i (view_registry g) e here, t.pass, ← t.ids, ← k, v, left-to-test e.ok (well_registry g) (sound_registry (view_registry g)) (not known) w)

  pub turn : (e.ok && (sound && not known)) ≡ true → (m : List Said) → m ≡ l ++ (g.id ∷ []) → Turned s c (i + 1) e m
  turn h m p =
      let r = times i read_registry s c in
      let more : times (i + 1) read_registry s c ≡ record { value = r.value ++ (view_registry g ∷ []); next = e } = times_more s c i (view_registry g) e here in
      record {
        at = ap (λ (x : Read (List Registry)). x.next) (sym more);
        ids = p ∙ rw (t.ids, more, map-append id_in r.value (view_registry g ∷ []));
        size = rw (p, length-append, t.size);
        pass = tested ∙ h;
      }

  pub section-fails : (e.ok && (sound && not known)) ≡ false → (n : Read ℕ) → n ≡ wide_count 16 s starting → c ≡ n.next → i < n.value → section_passes s ≡ false
  unfolding section_passes
  section-fails h n a b below =
      let up : i + 1 ≤ (wide_count 16 s starting).value = rw (← a) (omega arith) in
      let fails : registries_pass s (wide_count 16 s starting).next (i + 1) ≡ false = rw (← a, ← b) (tested ∙ h) in
      stays-failed s (wide_count 16 s starting).next (i + 1) (wide_count 16 s starting).value up fails

-- and behind the last
pub section-end : (s : List ℕ) (n : Read ℕ) → n ≡ wide_count 16 s starting → (i : ℕ) → i ≡ n.value → (d : Cursor) (l : List Said) → Turned s n.next i d l → Passed s l d
unfolding section_passes read_registries wide_section
section-end s n q i e d l t = record { passes = rw (← q, ← e) t.pass; listed = rw (← q, ← e) t.ids; behind = rw (← q, ← e) t.at }

held-layouts : (gs : List Registry) → all keeps_layout (map held_now gs) ≡ true
unfolding all
held-layouts [] = refl
held-layouts (g ∷ gs) = held-layouts gs

held-rules : (gs : List Registry) → all keeps_rules (map held_now gs) ≡ all sound_registry gs
unfolding all
held-rules [] = refl
held-rules (g ∷ gs) = ap (λ (t : Bool). sound_registry g && t) (held-rules gs)

pub held-ids : (gs : List Registry) → map id_of (map held_now gs) ≡ map id_in gs
held-ids [] = refl
held-ids (g ∷ gs) = ap (λ l. g.id ∷ l) (held-ids gs)

pub rules-registries : (gs : List Registry) → leb (length gs) 16 ≡ true → holds (registry_rules 16 (length gs) (map held_now gs)) ≡ apart_and_sound gs
unfolding holds
rules-registries gs h =
    rw (h, held-layouts gs, held-ids gs, held-rules gs) (go (distinct eq_said (map id_in gs)) (all sound_registry gs))
  where
    go : (d a : Bool) → (d && (a && true)) ≡ (a && d)
    go true true = refl
    go true false = refl
    go false true = refl
    go false false = refl
