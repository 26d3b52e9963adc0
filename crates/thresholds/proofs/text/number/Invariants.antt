use Rattle.std.proofs.Common.{◌≡◌, Some}
use Rattle.thresholds.specs.Texts.{number_to}
use Rattle.thresholds.proofs.text.number.Given as goal

abbrev pub invariant-loop-byte : goal.invariant-loop-byte
invariant-loop-byte l = Some l.n ≡ number_to l.s l.byte-index
