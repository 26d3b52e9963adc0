use mathlib.Core.Path.{◌∙◌}
use Rattle.cesr.proofs.Matters.{eq-fields}
use Rattle.registry_backer.proofs.SealLaws.{no-event-named}
use Rattle.registry_backer.proofs.backer.names_registry.Goals as goal

pub returns-in-Event : goal.returns-in-Event
returns-in-Event c = rw (c.in-Event.is, ← c.matter.ensures) (c.eq.ensures ∙ eq-fields _ _)

pub returns-in_default : goal.returns-in_default
returns-in_default c = no-event-named c.args.seal c.args.id c.in_default.not-Event
