use Rattle.host_registry.proofs.RotationCalls.{made-rotated}
use Rattle.host_registry.proofs.registry_calls.rotated_of.Goals as goal

pub returns : goal.returns
returns c held s e f = made-rotated _ _ _ held s e f
