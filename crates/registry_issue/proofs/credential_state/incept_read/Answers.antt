use Rattle.registry_answer.proofs.AnswerLaws.{handed-on}
use Rattle.registry_issue.proofs.IssueLaws.{refused, accepted}
use Rattle.registry_issue.proofs.credential_state.incept_read.Goals as goal

pub returns-in_err-event_answer : goal.returns-in_err-event_answer
returns-in_err-event_answer c l =
    rw (handed-on _ _ c.from_residual.ensures.1, ← c.in-Some.ensures.view)
    (refused _ _ _ _ (c.in_err-event_answer.ensures l))

pub returns : goal.returns
returns c l =
    rw (← c.in-Some.ensures.view)
    (accepted _ _ _ (c.in_ok-event_answer.ensures l) _ (c.own_signatures.ensures _ l _))
