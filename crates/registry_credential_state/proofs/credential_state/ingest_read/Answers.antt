use mathlib.Core.Path.{sym, ◌∙◌}
use Rattle.registry_answer.proofs.AnswerLaws.{handed-on}
use Rattle.registry_credential_state.proofs.CredentialLaws.{elsewhere, refused, accepted}
use Rattle.registry_credential_state.proofs.credential_state.ingest_read.Goals as goal

pub returns-then-not-held : goal.returns-then-not-held
returns-then-not-held c l w h =
    rw (← c.in-Some.ensures.view) (elsewhere _ w _ _ (sym h ∙ c.if-not-held.true))

pub returns-in_err-event_answer : goal.returns-in_err-event_answer
returns-in_err-event_answer c l w h =
    rw (handed-on _ _ c.from_residual.ensures.1, ← c.in-Some.ensures.view)
    (refused _ w _ _ (sym h ∙ c.if-not-held.false) _ (c.in_err-event_answer.ensures l))

pub returns : goal.returns
returns c l w h =
    rw (← c.in-Some.ensures.view)
    (accepted _ w _ _ (sym h ∙ c.if-not-held.false) (c.in_ok-event_answer.ensures l) _ (c.own_signatures.ensures _ l _))
