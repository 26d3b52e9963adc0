-- Laws of the registries of a ledger, as they are lent.
--     blank-held                        a blank registry, as it is held
--     held_at, take-held                a registry before the count, and all of them, as they are held
--     read-there, read_past             what is said of a registry that is read, within the slice and past its end
--     found-registry, stored-registry   the ledger's look-up and its replacement, by place
use Prim.Native.Nat.{ℕ, zero, suc, ◌<◌, ◌≤◌, min}
use mathlib.Core.Path.{◌≡◌, refl, ap, sym, ◌∙◌}
use mathlib.Core.Bool.{Bool, true, false, cond, and-false}
use mathlib.Core.Option.{none, some}
use mathlib.Core.List.{List, [], ◌∷◌, map}
use native.Mathlib.Omega.{arith}
use native.Mathlib.Decide.{dec_lt}
use borrow.Author.Tests.{ltb-true}
use lib.Dec.{ltb, leb}
use lib.ListN.{length, length-map, get_or, set, take, get_or-map, get_or-eq_default}
use lib.Seq.{set_out, take-set-le}
use Rattle.laws.proofs.Views.{seen_size, seen_at, seen-set}
use Rattle.cesr.specs.Primitives.{eq_said, is_said}
use Rattle.cesr.specs.declared.Said.{Said}
use Rattle.registry_state.specs.States.{Registry, view_registry, well_registry, no_registry, no_said}
use Rattle.registry_state.specs.declared.RegistryState.{RegistryState}
use Rattle.ledger_step.specs.Tables.{find, put, place}
use Rattle.ledger_step.specs.Ledgers.{Held, held_of, id_of}
use Rattle.ledger_step.proofs.PlaceLaws.{get_d_any, find-place, put-place}
use Rattle.ledger_registries.specs.Registries.{no_held, blank, find_registry}

no-letter : is_said no_said.0 ≡ false
unfolding is_said
no-letter = refl

ill-formed : (g : RegistryState) → is_said g.id.0 ≡ false → well_registry g ≡ false
unfolding well_registry
ill-formed g e = rw (e, and-false (leb g.backers.count 16), and-false (leb g.configs.count 8))

-- a blank registry keeps to no layout: its id has no letter
pub blank-held : (g : RegistryState) → view_registry g ≡ no_registry → held_of g ≡ no_held
blank-held g e =
    let id : g.id ≡ no_said = ap (λ (r : Registry). r.id) e in
    let well : well_registry g ≡ false = ill-formed g (ap (λ (a : Said). is_said a.0) id ∙ no-letter) in
    λ i. record { well = well i; state = e i }

pub held_at : (gs : List RegistryState) (count i : ℕ) → i < min count (length gs) → held_of (get_or gs i blank) ≡ get_or (map held_of (take count gs)) i no_held
held_at gs count i h =
    let n = seen_size held_of count (length gs) gs refl in
    seen_at held_of count (length gs) gs refl i blank (omega (arith, n)) ∙ get_d_any (map held_of (take count gs)) i (held_of blank) no_held (omega (arith, n))

-- the registries before the count, as they are held
pub take-held : (n : ℕ) (gs : List RegistryState) → take n (map held_of gs) ≡ map held_of (take n gs)
take-held zero gs = refl
take-held (suc n) [] = refl
take-held (suc n) (g ∷ gs) = ap (λ (l : List Held). held_of g ∷ l) (take-held n gs)

pub read-there : (gs : List RegistryState) (i : ℕ) → i < length gs → held_of (get_or gs i blank) ≡ get_or (map held_of gs) i no_held
read-there gs i h = sym (get_or-map held_of gs i blank) ∙ get_d_any (map held_of gs) i (held_of blank) no_held (omega (arith, length-map gs held_of))

pub read_past : (gs : List RegistryState) (i : ℕ) (g : RegistryState) → length gs ≤ i → view_registry g ≡ no_registry → held_of g ≡ get_or (map held_of gs) i no_held
read_past gs i g h e = blank-held g e ∙ sym (get_or-eq_default (map held_of gs) no_held {n = i} (omega (arith, length-map gs held_of)))

-- the ledger's look-up: a registry is held exactly where the place is among those in use, and then it is the one there
pub found-registry : (gs : List RegistryState) (count : ℕ) (id : Said) → find id_of eq_said id (map held_of (take count gs)) ≡ cond (ltb (find_registry gs count id) (min count (length gs))) (some (held_of (get_or gs (find_registry gs count id) blank))) none
unfolding find_registry
found-registry gs count id =
    let l = map held_of (take count gs) in
    let p = place id_of eq_said no_held id l in
    find-place id_of eq_said no_held id l ∙ rw (seen_size held_of count (length gs) gs refl) (go p (ltb p (min count (length gs))) refl)
  where
    go : (p : ℕ) (t : Bool) → ltb p (min count (length gs)) ≡ t → cond t (some (get_or (map held_of (take count gs)) p no_held)) none ≡ cond t (some (held_of (get_or gs p blank))) none
    go p true e = ap some (sym (held_at gs count p (ltb-true p (min count (length gs)) e)))
    go p false e = refl

-- the ledger's replacement: a store at that place
pub stored-registry : (gs : List RegistryState) (count : ℕ) (id : Said) (g : RegistryState) → put id_of eq_said id (held_of g) (map held_of (take count gs)) ≡ map held_of (take count (set gs (find_registry gs count id) g))
unfolding find_registry
stored-registry gs count id g =
    put-place id_of eq_said no_held id (held_of g) (map held_of (take count gs)) ∙ go (place id_of eq_said no_held id (map held_of (take count gs)))
  where
    go : (p : ℕ) → set (map held_of (take count gs)) p (held_of g) ≡ map held_of (take count (set gs p g))
    go p =
        let n = seen_size held_of count (length gs) gs refl in
        elim (dec_lt p (min count (length gs))) [
          | yes b ↦ sym (seen-set held_of count (length gs) gs refl p g (omega (arith, n)))
          | no b ↦
              set_out (map held_of (take count gs)) p (held_of g) (omega (arith, n)) ∙ elim (dec_lt p count) [
                | yes c ↦ ap (λ (l : List RegistryState). map held_of (take count l)) (sym (set_out gs p g (omega arith)))
                | no c ↦ ap (map held_of) (sym (take-set-le count gs p g (omega arith)))
              ]
        ]
