-- A ledger that has one row left (specs/Examples).
--     reads, counted    it keeps the reading rules, and holds as many rows as it counts
--     numbers           of two credentials that are not held it takes the first alone
use Prim.Native.Nat.{ℕ, zero, suc, ◌≤◌}
use mathlib.Core.Path.{◌≡◌, refl, ap}
use mathlib.Core.Bool.{true, false}
use mathlib.Core.Option.{none}
use mathlib.Core.List.{[], ◌∷◌, map}
use native.Mathlib.Omega.{arith}
use borrow.Author.Tests.{leb-true, eq-eqb, ne_eqb}
use lib.Dec.{eqb, lit<}
use lib.ListN.{length}
use Rattle.laws.specs.First.{first}
use Rattle.cesr_sn.specs.Numbers.{value}
use Rattle.cesr.specs.Primitives.{eq_matter, is_said}
use Rattle.events.specs.Members.{check_members, check}
use Rattle.events_toad.specs.Toads.{exact_ok}
use Rattle.events_tel.specs.Configs.{no_backers, has_code}
use Rattle.events_tel.specs.TelEvents.{sn_zero}
use Rattle.codec.specs.Layout.{all}
use Rattle.registry_state_credential.specs.CredentialStates.{well_credential}
use Rattle.registry_state_credential.specs.declared.CredentialState.{CredentialState}
use Rattle.registry_answer.specs.Answers.{accept_if, first_of}
use Rattle.registry_error.specs.declared.RegistryRejection.TheVariants.{NoRoom}
use Rattle.registry_authentication.specs.Issuers.{authenticate_issuer}
use Rattle.registry_issue.specs.IssueFolds as I
use Rattle.registry_laws.specs.ReadingRules.{sound_registry}
use Rattle.registry_laws.specs.Pairs.{Pair, key_of}
use Rattle.ledger_step.specs.Tables.{has, distinct, find}
use Rattle.ledger_step.specs.Ledgers.{Ledger, eq_pair, has_registry, zero_or_one, sound}
use Rattle.ledger_step.specs.Steps.{effect, changed}
use Rattle.ledger_step.specs.Steps.Effect.{refuse, new_row}
use Rattle.ledger_step.proofs.TableLaws.{find-append}
use Rattle.ledger_step.proofs.Rules.{Keeps, whole}
use Rattle.ledger_step.proofs.Changes.{NewRow, keeps-changed}
use Rattle.ledger_examples.specs.Pieces.{primitive, said, plain_id, issue}
use Rattle.ledger_examples.specs.Examples.{held_rows, one_left}
use Rattle.ledger_examples.proofs.Asked.{numbers_by}
use Rattle.ledger_examples.proofs.Cases.{asked}

abbrev held_key : ℕ → Pair
held_key n = record { registry = plain_id; credential = record { 0 = primitive 70 n } }

-- no key is held twice
lacks : (n m : ℕ) → n ≤ m → has eq_pair (held_key m) (map key_of (held_rows n)) ≡ false
unfolding has held_rows eq_matter
lacks zero m h = refl
lacks (suc n) m h = rw (ne_eqb n m (λ e. omega (arith, e, h))) (lacks n m (omega (arith, h)))

keys : (n : ℕ) → distinct eq_pair (map key_of (held_rows n)) ≡ true
unfolding distinct held_rows
keys zero = refl
keys (suc n) = rw (lacks n n (omega arith)) (keys n)

wells : (n : ℕ) → all well_credential (held_rows n) ≡ true
unfolding all held_rows well_credential is_said
wells zero = refl
wells (suc n) = wells n

homes : (n : ℕ) → all (has_registry (plain_id ∷ [])) (held_rows n) ≡ true
unfolding all held_rows has eq_matter
homes zero = refl
homes (suc n) = homes n

lows : (n : ℕ) → all zero_or_one (held_rows n) ≡ true
unfolding all held_rows value
lows zero = refl
lows (suc n) = lows n

-- a said with the letter E is no held credential's
absent : (n c : ℕ) → find key_of eq_pair (record { registry = plain_id; credential = said c }) (held_rows n) ≡ none
unfolding find held_rows eq_matter
absent zero c = refl
absent (suc n) c = absent n c

pub counted : (n : ℕ) → length (held_rows n) ≡ n
unfolding held_rows
counted zero = refl
counted (suc n) = ap suc (counted n)

keeps : Keeps one_left
unfolding all distinct has sound_registry check_members check first exact_ok no_backers has_code
keeps = record
    { registry-slots = refl; few-registries = leb-true _ 16 refl; row-slots = refl; few-rows = leb-true _ 256 refl; layouts = refl; row-layouts = wells 255; ids = refl; keys = keys 255; homes = homes 255; low = lows 255; ruled = refl }

pub reads : sound one_left ≡ true
reads = whole one_left keeps

-- the row of a credential that is issued
abbrev row : ℕ → ℕ → CredentialState
row c x = record { registry = plain_id; credential = said c; sn = sn_zero; head = said x }

takes : (c x : ℕ) → effect one_left (asked (issue (said c) (said x))) ≡ new_row (row c x)
unfolding effect find eq_matter I.incept_message I.iss_answer first_of accept_if no_backers has_code authenticate_issuer value
takes c x = rw (reads, absent 255 c, eq-eqb c c refl, eq-eqb x x refl)

-- and so keeps the rules
abbrev filled : ℕ → ℕ → Ledger
filled c x = changed one_left (new_row (row c x))

filled-reads : (c x : ℕ) → sound (filled c x) ≡ true
unfolding has eq_matter well_credential is_said value
filled-reads c x =
    let q = asked (issue (said c) (said x)) in
    let n : NewRow one_left q (row c x) = record { message = issue (said c) (said x); asked = refl; absent = absent 255 c; home = refl; well = refl; low = refl; room = lit< tt } in
    whole (filled c x) (keeps-changed one_left q (new_row (row c x)) keeps n)

full : (c x d y : ℕ) → eqb c d ≡ false → effect (filled c x) (asked (issue (said d) (said y))) ≡ refuse NoRoom
unfolding effect find eq_matter I.incept_message I.iss_answer first_of accept_if no_backers has_code authenticate_issuer value
full c x d y h =
    rw (filled-reads c x, find-append key_of eq_pair (record { registry = plain_id; credential = said d }) (held_rows 255) (row c x), absent 255 d, h, eq-eqb d d refl, eq-eqb y y refl)

-- of two credentials the second finds no room
pub numbers : (c x d y : ℕ) → eqb c d ≡ false → numbers_by one_left (asked (issue (said c) (said x)) ∷ asked (issue (said d) (said y)) ∷ []) ≡ 0 ∷ 29 ∷ []
unfolding numbers_by
numbers c x d y h = rw (takes c x, full c x d y h)
