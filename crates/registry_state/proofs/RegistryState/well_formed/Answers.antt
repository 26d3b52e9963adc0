use Rattle.codec.specs.Readers.{is_identifier}
use Rattle.registry_state.specs.States.{well_registry}
use Rattle.registry_state.proofs.RegistryState.well_formed.Goals as goal

pub returns : goal.returns
unfolding well_registry is_identifier
returns c =
    rw (c.is_said-3.ensures, c.is_said-2.ensures, c.all_backers.ensures, c.all_configs.ensures, c.is_said.ensures, c.is_basic.ensures)
