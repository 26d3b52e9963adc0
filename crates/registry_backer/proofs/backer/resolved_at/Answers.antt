use Rattle.registry_answer.specs.Answers.{accept_if}
use Rattle.events_tel.specs.TelEvents.{members_in}
use Rattle.registry_backer.proofs.backer.resolved_at.Goals as goal

pub returns-then-not-same_registry-stands_at : goal.returns-then-not-same_registry-stands_at
unfolding accept_if
returns-then-not-same_registry-stands_at c l =
    let held = members_in c.args.s.now c.read_management-held.result.backers in
    rw (c.in-BackerAt.is, ← c.read_management-held.ensures, ← c.same_registry.ensures held l, ← c.stands_at-in-BackerAt.ensures held, c.if-not-same_registry-stands_at.true)

pub returns-else-not-same_registry-stands_at : goal.returns-else-not-same_registry-stands_at
unfolding accept_if
returns-else-not-same_registry-stands_at c l =
    let held = members_in c.args.s.now c.read_management-held.result.backers in
    rw (c.in-BackerAt.is, ← c.read_management-held.ensures, ← c.same_registry.ensures held l, ← c.stands_at-in-BackerAt.ensures held, c.if-not-same_registry-stands_at.false) c.backed_in.ensures
