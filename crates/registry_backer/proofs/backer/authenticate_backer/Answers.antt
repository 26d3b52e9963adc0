use Rattle.cesr.proofs.Matters.{differ, agree}
use Rattle.registry_answer.specs.Answers.{accept_if}
use Rattle.registry_backer.proofs.AuthorityLaws.{event-seal, other-seal}
use Rattle.registry_backer.proofs.backer.authenticate_backer.Goals as goal

pub returns-then-ne : goal.returns-then-ne
unfolding accept_if
returns-then-ne c l =
    rw (c.in-Event.is, event-seal, ← c.matter.ensures, differ _ _ c.if-ne.ensures)

pub returns-else-ne : goal.returns-else-ne
unfolding accept_if
returns-else-ne c l =
    rw (c.in-Event.is, event-seal, ← c.matter.ensures, agree _ _ c.if-ne.ensures) (c.resolved_at.ensures l)

pub returns-in_default : goal.returns-in_default
returns-in_default c l = other-seal _ _ _ _ c.in_default.not-Event
