use Rattle.std.proofs.Common.{◌≡◌}
use Rattle.std.proofs.Math.Seq.{sets}
use Rattle.ledger_text.proofs.Decimals.{spelled}
use Rattle.ledger_text.proofs.text.put_decimal.Given as goal

abbrev pub invariant-loop-i : goal.invariant-loop-i
invariant-loop-i l = sets l.out l.at (spelled l.i l.rest) ≡ sets l.initial.out l.at (spelled l.k l.n)
