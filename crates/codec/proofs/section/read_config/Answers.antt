use Rattle.events_tel.specs.Readers.{read_byte_if}
use Rattle.codec.specs.Events.{read_config, is_config}
use Rattle.codec.proofs.section.read_config.Goals as goal

pub returns : goal.returns
unfolding read_config read_byte_if is_config
returns c = rw (← c.byte-b.ensures, c.expect_that-next.ensures, c.is_config.ensures)
