use Rattle.registry_source.specs.Sources.{read_source}
use Rattle.registry_source.proofs.Source.read.Goals as goal

pub returns : goal.returns
unfolding read_source
returns c =
    rw (← c.sn-n.ensures, ← c.said-d.ensures)
