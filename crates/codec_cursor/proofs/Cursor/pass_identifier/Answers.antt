use Rattle.cesr.specs.Primitives.{is_basic, is_said}
use Rattle.codec_cursor.specs.Readers.{read_identifier, read_if, is_identifier, letter_only}
use Rattle.codec_cursor.proofs.Passing.{passed-by}
use Rattle.codec_cursor.proofs.Cursor.pass_identifier.Goals as goal

pub returns : goal.returns
unfolding read_identifier read_if is_identifier is_basic is_said
returns c =
    rw (c.expect_that.ensures, c.is_said.ensures, c.is_basic.ensures, c.advance.ensures, c.lettered-letter.ensures, c.read_u8.ensures) (passed-by (λ x. is_identifier (letter_only x)) _ _)
