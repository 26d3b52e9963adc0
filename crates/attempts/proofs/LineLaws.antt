-- The line of an attempt, and the end of the run.
--     line-is        number and letter of the answer are those of the ledger's step
--     took-less      a run that wants an attempt has fewer to come once one was read
--     last-counted   the counts of the last line are the ledger's
use Prim.Native.Nat.{ℕ, ◌-◌, ◌<◌}
use mathlib.Core.Path.{◌≡◌, refl, ap, ◌∙◌}
use mathlib.Core.Bool.{Bool, true, false, cond, ◌&&◌}
use mathlib.Core.List.{List}
use Rattle.std.proofs.Common.{Some, None}
use Rattle.std.specs.declared.option.Option.{Option}
use native.Mathlib.Omega.{arith}
use borrow.Author.Tests.{ltb-true}
use lib.Dec.{ltb, leb}
use Rattle.registry_error.specs.Errors.{answer_number, answer_letter}
use Rattle.registry_error.specs.Errors.{Answer}
use Rattle.ledger_step.specs.Ledgers.{Ledger, lent_ledger}
use Rattle.ledger_step.specs.Steps.{step_of}
use Rattle.ledger_table.specs.declared.Ledger as Value
use Rattle.ledger_table.specs.Tables.{view_ledger}
use Rattle.ledger_text.specs.Lines.{line_bytes, last_line}
use Rattle.ledger_frames.specs.Runs.{took_of}
use Rattle.ledger_frames.specs.declared.Run.{Run}
use Rattle.attempts.specs.Answering.{line_of}

pub line-is : (position n z : ℕ) (x : Answer) (l : Ledger) (a : List ℕ) → n ≡ answer_number x → z ≡ answer_letter x → x ≡ (step_of l a).answer → line_bytes position n z ≡ line_of l position a
line-is position n z x l a p q e = λ i. line_bytes position ((p ∙ ap answer_number e) i) ((q ∙ ap answer_letter e) i)

pub took-less : (r : Run) (z : Option ℕ) (got : ℕ) → ltb 0 r.left ≡ true → (took_of r z got).left < r.left
unfolding took_of
took-less r None got h = omega (arith, ltb-true 0 r.left h)
took-less r (Some n) got h = go (ltb 0 r.left && leb n got)
  where
    go : (b : Bool) → (cond {A = Run} b (record { count = r.count; left = r.left - 1; broken = r.broken }) (record { count = r.count; left = 0; broken = true })).left < r.left
    go true = omega (arith, ltb-true 0 r.left h)
    go false = omega (arith, ltb-true 0 r.left h)

pub last-counted : (t : Value.Ledger) → last_line t.registry_count t.row_count ≡ last_line (view_ledger t).registry_count (view_ledger t).row_count
unfolding view_ledger lent_ledger
last-counted t = refl
