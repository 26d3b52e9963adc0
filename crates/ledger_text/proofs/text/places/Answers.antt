use mathlib.Core.Path.{sym}
use native.Mathlib.Omega.{arith}
use Rattle.ledger_text.proofs.Decimals.{decimal-counted}
use Rattle.ledger_text.proofs.text.places.Goals as goal

pub returns-clause-value : goal.returns-clause-value
returns-clause-value c = sym (decimal-counted _ _ _ c.ilog10.ensures.power_le c.ilog10.ensures.next_power_gt (omega (arith, c.max.ensures)) (λ t. omega (arith, c.max.ensures)))
