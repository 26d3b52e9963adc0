use Rattle.events_tel.specs.Readers.{count_up_to}
use Rattle.codec.proofs.section.count_up_to.Goals as goal

pub returns-then-next : goal.returns-then-next
unfolding count_up_to
returns-then-next c =
    rw (← c.byte-b.ensures, ← c.expect_that-next.ensures, c.if-next.true)

pub returns-else-next : goal.returns-else-next
unfolding count_up_to
returns-else-next c =
    rw (← c.byte-b.ensures, ← c.expect_that-next.ensures, c.if-next.false)
