-- How a loop finds that rows are sound, one row at a time: the laws of `TableChecks`, by the rows that are lent.
--     Kept                                what holds where the loop has come to row i: those before it are sound
--     answer                              what the rules say
--     at-start, at-good, at-bad, at-end   it holds at the first row, a turn keeps it, and what the loop answers is what the rules say
--     Turn, unsound, repeated, passed     what a turn learns of its row, by the rows that the marks leave to be searched
--     wrong_slots, too_many               what it answers where the sizes are wrong
use Prim.Native.Nat.{ℕ, ◌+◌, ◌<◌, ◌≤◌}
use mathlib.Core.Path.{◌≡◌, refl, ◌∙◌}
use mathlib.Core.Bool.{Bool, true, false, ◌&&◌, and-false}
use mathlib.Core.List.{List}
use native.Mathlib.Numerals.{add-one}
use borrow.Author.Tests.{le-leb, lt-leb}
use lib.Dec.{leb}
use lib.ListN.{length, take}
use Rattle.registry_state_credential.specs.CredentialStates.{no_credential, well_credential}
use Rattle.registry_state_credential.specs.declared.CredentialState.{CredentialState}
use Rattle.ledger_rows.specs.Pairs.{key_of}
use Rattle.ledger_rows.specs.Ledgers.{eq_pair, zero_or_one, holds, row_rules}
use Rattle.ledger_rows.proofs.Rules.{pair-test}
use Rattle.ledger_rows.proofs.TableChecks as C
use Rattle.ledger_rows.specs.Rows.{row_at, find_at}
use Rattle.ledger_row_rules.specs.Marking.{to_search}
use Rattle.ledger_row_rules.specs.declared.marks.Marks.{Marks}
use Rattle.ledger_row_rules.proofs.Marked.{marks_of, same_test}

module _ (l : List CredentialState) where
  -- what is asked of row i after those before it
  abbrev pub passes_at : ℕ → Bool
  passes_at i = (well_credential (row_at l i) && zero_or_one (row_at l i)) && leb i (find_at l i (row_at l i).registry (row_at l i).credential)

  asked : (i : ℕ) → C.passes_at key_of eq_pair no_credential well_credential zero_or_one 256 pair-test l i ≡ passes_at i
  unfolding find_at
  asked i = refl

  abbrev row_sound : ℕ → Bool
  row_sound i = well_credential (row_at l i) && zero_or_one (row_at l i)

  pub unsound : (i : ℕ) → row_sound i ≡ false → passes_at i ≡ false
  unsound i e = rw e

  -- what a turn knows: the marks of the rows before, how many of these were searched, and where the search ended
  pub record Turn (i : ℕ) (marks : Marks) (searched found : ℕ) : Type 0 where
    pub before : i ≤ length l
    pub marked : marks ≡ marks_of l i
    pub left : searched ≡ to_search marks (row_at l i).credential i
    pub ended : found ≡ find_at l searched (row_at l i).registry (row_at l i).credential

  module _ (i : ℕ) (marks : Marks) (searched found : ℕ) (t : Turn i marks searched found) where
    -- a search among the rows that the marks leave to be searched says the same
    same : leb searched found ≡ leb i (find_at l i (row_at l i).registry (row_at l i).credential)
    unfolding find_at
    same = rw (t.ended, t.left, t.marked) (same_test l i t.before (row_at l i) refl)

    pub repeated : found < searched → passes_at i ≡ false
    repeated h = rw (← same, lt-leb searched found h) (and-false (row_sound i))

    pub passed : row_sound i ≡ true → searched ≤ found → passes_at i ≡ true
    passed e h = rw (e, ← same) (le-leb searched found h)

  abbrev pub Kept : ℕ → Type 0
  Kept i = C.Kept key_of eq_pair no_credential well_credential zero_or_one 256 pair-test l i

  abbrev pub answer : ℕ → Bool
  answer n = holds (row_rules (length l) n (take n l))

  pub at-start : Kept 0
  at-start = C.at-start key_of eq_pair no_credential well_credential zero_or_one 256 pair-test l

  pub at-good : (i : ℕ) → i < length l → Kept i → passes_at i ≡ true → Kept (i + 1)
  at-good i h f p = rw add-one (C.at-good key_of eq_pair no_credential well_credential zero_or_one 256 pair-test l i h f (asked i ∙ p))

  pub wrong_slots : (n : ℕ) → (length l ≡ 256 → ⊥) → false ≡ answer n
  wrong_slots n h = C.wrong_slots key_of eq_pair no_credential well_credential zero_or_one 256 pair-test l n h

  pub too_many : (n : ℕ) → 256 < n → false ≡ answer n
  too_many n h = C.too_many key_of eq_pair no_credential well_credential zero_or_one 256 pair-test l n h

  pub at-end : (n : ℕ) → length l ≡ 256 → n ≤ 256 → Kept n → true ≡ answer n
  at-end n e u f = C.at-end key_of eq_pair no_credential well_credential zero_or_one 256 pair-test l n e u f

  pub at-bad : (n i : ℕ) → length l ≡ 256 → n ≤ 256 → i < n → passes_at i ≡ false → false ≡ answer n
  at-bad n i e u h p = C.at-bad key_of eq_pair no_credential well_credential zero_or_one 256 pair-test l n i e u h (asked i ∙ p)
