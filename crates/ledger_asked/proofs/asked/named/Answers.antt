use borrow.Author.Tests.{ne_eqb}
use Rattle.ledger_asked.specs.Names.{head_named}
use Rattle.ledger_asked.proofs.asked.named.Goals as goal

pub returns-in-2 : goal.returns-in-2
unfolding head_named
returns-in-2 c =
    rw (← c.read_u8-kind.ensures, c.in-2.is, c.about-in-2.ensures, c.read-in-2.ensures, c.none.ensures)

pub returns-in_default : goal.returns-in_default
unfolding head_named
returns-in_default c =
    let n = c.read_u8-kind.result in
    let r = c.in_default.in_default-own.rest in
    rw (
      ← c.read_u8-kind.ensures,
      ne_eqb n 1 r.0.0.0.0.1,
      ne_eqb n 2 r.0.0.0.1,
      ne_eqb n 3 r.0.0.1,
      ne_eqb n 4 r.0.1,
      ne_eqb n 5 r.1,
    )
    c.named_sealed.ensures
