use mathlib.Core.Path.{◌∙◌}
use native.Mathlib.Omega.{arith}
use Rattle.cesr_sn.specs.Numbers.{value}
use Rattle.cesr_sn.proofs.Order.{same_value}
use Rattle.ledger_standing.proofs.lookup.is_issued.Goals as goal

pub returns : goal.returns
unfolding value
returns c = c.eq.ensures ∙ same_value c.args.row.sn (record { hi = 0; lo = 0 }) (omega arith) (omega arith)
