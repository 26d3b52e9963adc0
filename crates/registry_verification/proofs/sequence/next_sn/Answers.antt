use mathlib.Core.Path.{sym, ◌∙◌}
use native.Mathlib.Omega.{arith}
use Rattle.cesr_sn.proofs.Order.{same_value}
use Rattle.registry_verification.specs.Sequence.{next_sn}
use Rattle.registry_verification.proofs.sequence.next_sn.Goals as goal

pub returns-then-is_last : goal.returns-then-is_last
unfolding next_sn
returns-then-is_last c = rw (sym c.is_last.ensures ∙ c.if-is_last.true)

pub returns : goal.returns
unfolding next_sn
returns c =
    rw (sym c.is_last.ensures ∙ c.if-is_last.false, c.accept_if.ensures, c.eq.ensures ∙ same_value c.args.sn c.next-expected.result (omega arith) (omega arith), c.next-expected.ensures)
