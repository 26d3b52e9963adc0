use mathlib.Core.Path.{◌∙◌}
use native.Mathlib.Omega.{arith}
use Rattle.cesr.proofs.Matters.{eq-fields}
use Rattle.cesr_sn.proofs.Order.{same_value}
use Rattle.registry_backer.specs.Backers.{stands_at}
use Rattle.registry_backer.proofs.backer.stands_at.Goals as goal

pub returns : goal.returns
unfolding stands_at
returns c l =
    rw (c.eq.ensures ∙ same_value c.args.g.sn c.args.s (omega arith) (omega arith), c.eq-2.ensures ∙ eq-fields c.args.g.latest.0 c.args.d.0)
