use borrow.Author.Tests.{ne_eqb}
use Rattle.host_ledger.specs.LedgerCalls.{said_in}
use Rattle.host_ledger.proofs.key.said_in.Goals as goal

pub returns-then-bytes-eq33 : goal.returns-then-bytes-eq33
unfolding said_in
returns-then-bytes-eq33 c = rw (c.if-bytes-eq33.true, c.read.ensures)

pub returns : goal.returns
unfolding said_in
returns c = rw (ne_eqb _ _ c.if-bytes-eq33.false, c.none.ensures)
