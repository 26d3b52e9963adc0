use Rattle.codec.specs.Readers.{read_number, read_quad}
use Rattle.registry_state.specs.States.{read_registry}
use Rattle.registry_state.proofs.RegistryState.pass.Goals as goal

pub returns : goal.returns
unfolding read_registry read_number read_quad
returns c =
    rw (← c.pass_said.ensures, ← c.pass_identifier-sn.ensures, ← c.advance.ensures, ← c.pass_said-toad.ensures, ← c.advance-2.ensures, ← c.read_configs-configs.ensures, ← c.pass_prefixes-backers.ensures)
