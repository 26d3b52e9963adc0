use Rattle.codec.specs.Readers.{read_byte_if}
use Rattle.codec.specs.Events.{read_other_seal}
use Rattle.codec_seal.proofs.seal.read_other_seal.Goals as goal

pub returns : goal.returns
unfolding read_other_seal read_byte_if
returns c =
    rw (← c.byte-k.ensures, c.expect_that-next.ensures, c.is_seal_kind.ensures, c.seal_of-value.ensures)
