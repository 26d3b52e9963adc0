use mathlib.Core.Path.{◌∙◌}
use Rattle.cesr.proofs.Matters.{eq-fields}
use Rattle.events_tel.proofs.ConfigLaws.{pointwise_same}
use Rattle.registry_backer.specs.Backers.{same_registry}
use Rattle.registry_backer.proofs.backer.same_registry.Goals as goal

pub returns : goal.returns
unfolding same_registry
returns c k l =
    rw (c.eq.ensures ∙ eq-fields c.args.g.now.id.0 c.args.h.now.id.0, c.eq-2.ensures ∙ eq-fields c.args.g.now.issuer c.args.h.now.issuer, c.eq-configs.ensures, c.as_slice.ensures, c.as_slice-2.ensures, pointwise_same)
