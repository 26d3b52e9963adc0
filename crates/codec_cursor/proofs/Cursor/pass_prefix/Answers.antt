use Rattle.cesr.specs.Primitives.{is_basic}
use Rattle.codec_cursor.specs.Readers.{read_prefix, read_if, letter_only}
use Rattle.codec_cursor.proofs.Passing.{passed-by}
use Rattle.codec_cursor.proofs.Cursor.pass_prefix.Goals as goal

pub returns : goal.returns
unfolding read_prefix read_if is_basic
returns c =
    rw (c.expect_that.ensures, c.is_basic.ensures, c.advance.ensures, c.lettered-letter.ensures, c.read_u8.ensures) (passed-by (λ x. is_basic (letter_only x)) _ _)
