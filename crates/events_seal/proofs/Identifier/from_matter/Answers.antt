use mathlib.Core.Path.{sym, ◌∙◌}
use Rattle.events_seal.specs.Identifiers.{identifier_of}
use Rattle.events_seal.proofs.Identifier.from_matter.Goals as goal

pub returns-then-is_basic : goal.returns-then-is_basic
unfolding identifier_of
returns-then-is_basic c = rw (sym c.is_basic.ensures ∙ c.if-is_basic.true)

pub returns : goal.returns
unfolding identifier_of
returns c = rw (sym c.is_basic.ensures ∙ c.if-is_basic.false)
