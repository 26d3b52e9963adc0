use Rattle.cesr.specs.Primitives.{is_said}
use Rattle.codec_cursor.specs.Readers.{read_said, read_if, letter_only}
use Rattle.codec_cursor.proofs.Passing.{passed-by}
use Rattle.codec_cursor.proofs.Cursor.pass_said.Goals as goal

pub returns : goal.returns
unfolding read_said read_if is_said
returns c =
    rw (c.expect_that.ensures, c.is_said.ensures, c.advance.ensures, c.lettered-letter.ensures, c.read_u8.ensures) (passed-by (λ x. is_said (letter_only x)) _ _)
