use Rattle.registry_inception.specs.InceptionFolds.{incepted_at}
use Rattle.registry_inception.proofs.registry.incepted.Goals as goal

pub returns : goal.returns
unfolding incepted_at
returns c =
    record { view = rw (c.members_in.ensures.0, c.trimmed.ensures.0, c.read.ensures, c.read-said.ensures); counts = (c.trimmed.ensures.1, c.members_in.ensures.1) }
