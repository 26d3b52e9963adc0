use Rattle.codec_cursor.specs.Readers.{read_number}
use Rattle.registry_source.specs.Sources.{read_source}
use Rattle.registry_source.proofs.Source.pass.Goals as goal

pub returns : goal.returns
unfolding read_source read_number
returns c = rw (c.pass_said.ensures, c.advance.ensures)
