use Rattle.registry_source.specs.Sources.{read_source}
use Rattle.codec.proofs.Loops.{section-none, section-one}
use Rattle.registry_source.proofs.pass_sources.Goals as goal

pub returns-then-n-eq0 : goal.returns-then-n-eq0
returns-then-n-eq0 c = rw (section-none read_source _ _ 1 _ c.count_up_to-n.ensures c.if-n-eq0.true)

pub returns : goal.returns
returns c = rw (section-one read_source _ _ _ c.count_up_to-n.ensures c.if-n-eq0.false, ← c.pass.ensures)
