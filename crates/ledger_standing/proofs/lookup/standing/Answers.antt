use mathlib.Core.Path.{◌≡◌}
use mathlib.Core.Bool.{true}
use borrow.Author.Tests.{not-false}
use Rattle.ledger_standing.specs.Lookups.{looked_up_of}
use Rattle.ledger_standing.proofs.lookup.standing.Goals as goal

pub returns-in-None : goal.returns-in-None
unfolding looked_up_of
returns-in-None c =
    let h : c.has_standing.result ≡ true = not-false _ c.if-not-has_standing.false-raw in
    rw (← c.has_standing.ensures, h, c.in-None.is)
