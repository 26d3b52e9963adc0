use mathlib.Core.Path.{sym, ◌∙◌}
use native.Mathlib.Omega.{arith}
use Rattle.registry_answer.proofs.AnswerLaws.{handed-on}
use Rattle.registry_authentication.proofs.AnchorUse.{message-in}
use Rattle.registry_issue.proofs.IssueLaws.{bis-routed, bis-flavor, bis-anchor, bis-backed}
use Rattle.registry_issue.proofs.credential_state.bis_answer.Goals as goal

pub returns-then-not-same_at : goal.returns-then-not-same_at
returns-then-not-same_at c l = bis-routed _ _ _ _ _ _ (sym c.if-not-same_at.ensures)

pub returns-then-no_backers : goal.returns-then-no_backers
returns-then-no_backers c l =
    bis-flavor _ _ _ _ _ _ (sym c.if-not-same_at.ensures) (sym c.if-no_backers.ensures)

pub returns-in_err-message_anchored : goal.returns-in_err-message_anchored
returns-in_err-message_anchored c l =
    handed-on _ _ c.from_residual.ensures.1
    ∙ bis-anchor _ _ _ _ _ _ (sym c.if-not-same_at.ensures) (sym c.if-no_backers.ensures) _
    (sym (rw (c.in_err-message_anchored.ensures, c.read-credential.ensures) (message-in _ _ _ _ _ _ (λ i. omega (arith, c.type_inv.s i)) c.requires)))

pub returns : goal.returns
returns c l =
    c.authenticate_backer.ensures l
    ∙ bis-backed _ _ _ _ _ _ (sym c.if-not-same_at.ensures) (sym c.if-no_backers.ensures)
    (sym (rw (c.in_ok-message_anchored.ensures, c.read-credential.ensures) (message-in _ _ _ _ _ _ (λ i. omega (arith, c.type_inv.s i)) c.requires)))
