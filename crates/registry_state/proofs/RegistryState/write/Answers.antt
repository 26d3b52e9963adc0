use Rattle.registry_state.specs.States.{view_registry}
use Rattle.registry_state.proofs.StateLoops.{registry-head}
use Rattle.registry_state.proofs.RegistryState.write.Goals as goal

pub returns : goal.returns
returns c =
    rw (registry-head (view_registry c.args.self)) c.write_registry.ensures
