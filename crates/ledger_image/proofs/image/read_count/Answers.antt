use Rattle.ledger_image.specs.Images.{wide_count}
use Rattle.ledger_image.proofs.image.read_count.Goals as goal

pub returns-then-next : goal.returns-then-next
unfolding wide_count
returns-then-next c =
    rw (← c.read_u16-count.ensures, ← c.advance.ensures, ← c.expect_that-next.ensures, c.if-next.true)

pub returns : goal.returns
unfolding wide_count
returns c =
    rw (← c.read_u16-count.ensures, ← c.advance.ensures, ← c.expect_that-next.ensures, c.if-next.false)
