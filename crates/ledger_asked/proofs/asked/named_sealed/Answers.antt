use mathlib.Core.Path.{sym, ◌∙◌}
use Rattle.events_seal.specs.Identifiers.{identifier_of}
use Rattle.ledger_asked.proofs.asked.named_sealed.Goals as goal

pub returns-then-is_basic : goal.returns-then-is_basic
unfolding identifier_of
returns-then-is_basic c =
    rw (← c.read_u8-seal.ensures, c.if-seal-ne4.false, ← c.read-i.ensures, sym c.is_basic.ensures ∙ c.if-is_basic.true)

pub returns : goal.returns
unfolding identifier_of
returns c =
    rw (c.about.ensures, c.read-credential.ensures, ← c.read_u8-seal.ensures, c.if-seal-ne4.false, ← c.read-i.ensures, sym c.is_basic.ensures ∙ c.if-is_basic.false)
