use Rattle.registry_state.specs.States.{view_registry}
use Rattle.registry_state.proofs.StateLoops.{length-registry}
use Rattle.registry_state.proofs.RegistryState.size.Goals as goal

pub returns : goal.returns
returns c = rw (length-registry (view_registry c.args.self)) c.state_size.ensures
