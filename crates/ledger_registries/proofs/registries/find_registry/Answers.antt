use Rattle.std.proofs.Common.{take, refl, ◌∙◌}
use Rattle.cesr.specs.Primitives.{eq_said}
use Rattle.ledger_step.specs.Ledgers.{held_of, id_of}
use Rattle.ledger_step.proofs.PlaceSteps.{searched}
use Rattle.ledger_registries.specs.Registries.{no_held, find_registry}
use Rattle.ledger_registries.proofs.registries.find_registry.Goals as goal

pub returns : goal.returns
unfolding find_registry
returns c =
    let a = c.args in
    c.unwrap_or.ensures ∙ rw (c.position.ensures, c.in_use-used.ensures) (searched id_of eq_said no_held held_of a.id (take a.count a.registries.now) _ refl)
