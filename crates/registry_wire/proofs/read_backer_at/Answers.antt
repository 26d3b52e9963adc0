use Rattle.registry_wire.proofs.AttemptLaws.{state-read}
use Rattle.registry_wire.proofs.read_backer_at.Goals as goal

pub returns : goal.returns
returns c = state-read _ _ _ c.pass.ensures
