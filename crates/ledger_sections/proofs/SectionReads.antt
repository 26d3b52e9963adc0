-- How registries of an image are read and stored, one at a time, as a loop goes.
--     counted-held         a registry whose counts are within the limits, as it is held
--     after                the cursor behind the first i registries
--     Upto, upto-none, upto-more   the registries where the first i are stored: none, and one more
use Prim.Native.Nat.{ℕ, suc, ◌<◌, ◌≤◌}
use mathlib.Core.Path.{◌≡◌, refl, ap, sym, ◌∙◌}
use mathlib.Core.List.{List, [], ◌∷◌, ◌++◌, map, map-append}
use native.Mathlib.Numerals.{add-one}
use native.Mathlib.Omega.{arith}
use borrow.Author.Tests.{le-leb}
use lib.ListN.{length, take, drop, set, length-set}
use lib.Seq.{take-suc-set, drop-set-lt, drop-drop}
use Rattle.codec_cursor.specs.Readers.{placed, times}
use Rattle.codec_cursor.specs.declared.Cursor.{Cursor}
use Rattle.registry_state.specs.States.{Registry, view_registry, well_registry, read_registry}
use Rattle.registry_state.specs.declared.RegistryState.{RegistryState}
use Rattle.ledger_step.specs.Ledgers.{held_of}
use Rattle.ledger_sections.specs.RegistrySections.{registries_in, well_letters, held_read}

-- a registry whose counts are within the limits, as it is held
pub counted-held : (g : RegistryState) → (g.configs.count ≤ 8) × (g.backers.count ≤ 16) → held_of g ≡ held_read (view_registry g)
unfolding well_registry well_letters
counted-held g h = rw (le-leb g.configs.count 8 h.0, le-leb g.backers.count 16 h.1)

module _ (bs : List ℕ) where
  abbrev pub after : ℕ → Cursor
  after i = (registries_in bs i).next

  abbrev values : ℕ → List Registry
  values i = (registries_in bs i).value

  pub after_none : after 0 ≡ placed 2
  unfolding registries_in times
  after_none = refl

  pub after_more : (i : ℕ) → (read_registry bs (after i)).next ≡ after (suc i)
  unfolding registries_in times
  after_more i = refl

  values-none : values 0 ≡ []
  unfolding registries_in times
  values-none = refl

  values-more : (i : ℕ) → values (suc i) ≡ values i ++ ((read_registry bs (after i)).value ∷ [])
  unfolding registries_in times
  values-more i = refl

  module _ (ys : List RegistryState) where
    -- the registries are zs, where i of them are stored
    pub record Upto (i : ℕ) (zs : List RegistryState) : Type 0 where
      pub long : length zs ≡ length ys
      pub held : map held_of (take i zs) ≡ map held_read (values i)
      pub rest : drop i zs ≡ drop i ys

    pub upto-none : Upto 0 ys
    upto-none = record { long = refl; held = rw values-none; rest = refl }

    -- and one more
    pub upto-more : (i : ℕ) (zs : List RegistryState) (g : RegistryState) → i < length ys → Upto i zs → held_of g ≡ held_read (read_registry bs (after i)).value → Upto (suc i) (set zs i g)
    upto-more i zs g l u e =
        let a : map held_of (take (suc i) (set zs i g)) ≡ map held_of (take i zs) ++ (held_of g ∷ []) = ap (map held_of) (take-suc-set zs i g (omega (arith, u.long, l))) ∙ map-append held_of (take i zs) (g ∷ []) in
        let b : map held_read (values (suc i)) ≡ map held_read (values i) ++ (held_read (read_registry bs (after i)).value ∷ []) = ap (map held_read) (values-more i) ∙ map-append held_read (values i) ((read_registry bs (after i)).value ∷ []) in
        let cut : (l : List RegistryState) → drop (suc i) l ≡ drop 1 (drop i l) = λ l. ap (λ (k : ℕ). drop k l) (sym (add-one i)) ∙ sym (drop-drop 1 i l) in
        let m : map held_of (take i zs) ++ (held_of g ∷ []) ≡ map held_read (values i) ++ (held_read (read_registry bs (after i)).value ∷ []) = rw (u.held, e) in
        record {
          long = length-set zs i g ∙ u.long;
          held = a ∙ m ∙ sym b;
          rest = drop-set-lt (suc i) zs i g (omega arith) ∙ cut zs ∙ ap (drop 1) u.rest ∙ sym (cut ys);
        }
