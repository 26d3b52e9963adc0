-- The reading rules, one by one, and equality of saids and pairs.
--     said-test, pair-test   the tests of equality are
--     Keeps, parts, whole    a sound ledger keeps each rule, and one that keeps them all is sound
use Prim.Native.Nat.{◌≤◌}
use mathlib.Core.Path.{◌≡◌}
use mathlib.Core.Bool.{Bool, true}
use mathlib.Core.List.{List, [], ◌∷◌, map}
use borrow.Author.Tests.{leb-true, le-leb}
use lib.Dec.{eqb}
use Rattle.laws.proofs.Tests.{and_left, and_right}
use Rattle.cesr.specs.Primitives.{eq_said}
use Rattle.cesr.proofs.Matters.{eq-said, said-eq}
use Rattle.codec.specs.Layout.{all}
use Rattle.registry_state_credential.specs.CredentialStates.{well_credential}
use Rattle.registry_laws.specs.Starred.{All}
use Rattle.registry_laws.specs.Pairs.{key_of}
use Rattle.ledger_step.specs.Tables.{distinct}
use Rattle.ledger_step.specs.Ledgers.{Ledger, eq_pair, ids_of, holds, keeps_layout, keeps_rules, has_registry, zero_or_one, rules, sound}
use Rattle.ledger_step.proofs.TableLaws.{Tests}

pub said-test : Tests eq_said
said-test = record { equal = said-eq; same = eq-said }

pub pair-test : Tests eq_pair
pair-test = record {
  equal = λ a b e.
      let r = said-eq a.registry b.registry (and_left (eq_said a.registry b.registry) (eq_said a.credential b.credential) e) in
      let c = said-eq a.credential b.credential (and_right (eq_said a.registry b.registry) (eq_said a.credential b.credential) e) in
      λ i. record { registry = r i; credential = c i };
  same = λ a. rw (eq-said a.registry, eq-said a.credential);
}

pub record Keeps (l : Ledger) : Type 0 where
  pub registry-slots : eqb l.registry_slots 16 ≡ true
  pub few-registries : l.registry_count ≤ 16
  pub row-slots : eqb l.row_slots 256 ≡ true
  pub few-rows : l.row_count ≤ 256
  pub layouts : all keeps_layout l.registries ≡ true
  pub row-layouts : all well_credential l.rows ≡ true
  pub ids : distinct eq_said (ids_of l) ≡ true
  pub keys : distinct eq_pair (map key_of l.rows) ≡ true
  pub homes : all (has_registry (ids_of l)) l.rows ≡ true
  pub low : all zero_or_one l.rows ≡ true
  pub ruled : all keeps_rules l.registries ≡ true

all_hold : (l : List Bool) → holds l ≡ true → All (λ t. t ≡ true) l
unfolding holds
all_hold [] h = tt
all_hold (t ∷ l) h = (and_left t (holds l) h, all_hold l (and_right t (holds l) h))

pub parts : (l : Ledger) → sound l ≡ true → Keeps l
unfolding sound
parts l h =
    let t = all_hold (rules l) h in
    let u = t.1.1.1.1 in
    let v = u.1.1.1 in
    record
    { registry-slots = t.0; few-registries = leb-true l.registry_count 16 t.1.0; row-slots = t.1.1.0; few-rows = leb-true l.row_count 256 t.1.1.1.0; layouts = u.0; row-layouts = u.1.0; ids = u.1.1.0; keys = v.0; homes = v.1.0; low = v.1.1.0; ruled = v.1.1.1.0 }

pub whole : (l : Ledger) → Keeps l → sound l ≡ true
unfolding sound holds
whole l k =
    rw (k.registry-slots, le-leb l.registry_count 16 k.few-registries, k.row-slots, le-leb l.row_count 256 k.few-rows, k.layouts, k.row-layouts, k.ids, k.keys, k.homes, k.low, k.ruled)
