use Rattle.host_registry.proofs.InceptionCalls.{made}
use Rattle.host_registry.proofs.registry_calls.made_of.Goals as goal

pub returns : goal.returns
returns c s = made s _ _
