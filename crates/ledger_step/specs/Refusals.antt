-- The number of an answer whose one refusal is 1 (docs/RULES.md, "Refusals").
use Rattle.std.specs.Prelude.{ℕ, Result, Ok, Err}
use Rattle.ledger_step.specs.declared.Malformed.{Malformed}

abbrev pub refusal_of : {A : Type 0} → Result A Malformed → ℕ
refusal_of (Ok x) = 0
refusal_of (Err e) = 1
