use Rattle.registry_state.specs.States.{read_registry}
use Rattle.registry_management.proofs.read_management.Goals as goal

pub returns : goal.returns
unfolding read_registry
returns c =
    rw (← c.said-id.ensures, ← c.identifier-issuer.ensures, ← c.sn-sn.ensures, ← c.said-latest.ensures, ← c.quad-toad.ensures, ← c.read_configs-configs.ensures, ← c.pass_prefixes-listed.ensures, c.from_wire-toad.ensures)
