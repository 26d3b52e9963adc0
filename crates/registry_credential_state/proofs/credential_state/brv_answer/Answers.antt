use mathlib.Core.Path.{sym, ◌∙◌}
use native.Mathlib.Omega.{arith}
use Rattle.registry_answer.proofs.AnswerLaws.{handed-on}
use Rattle.registry_authentication.proofs.AnchorUse.{message-in}
use Rattle.registry_credential_state.proofs.CredentialLaws.{brv-routed, brv-flavor, brv-anchor, brv-backed}
use Rattle.registry_credential_state.proofs.credential_state.brv_answer.Goals as goal

pub returns-then-not-names_registry : goal.returns-then-not-names_registry
returns-then-not-names_registry c l = brv-routed _ _ _ _ _ (sym c.if-not-names_registry.ensures)

pub returns-then-no_backers : goal.returns-then-no_backers
returns-then-no_backers c l =
    brv-flavor _ _ _ _ _ (sym c.if-not-names_registry.ensures) (sym c.if-no_backers.ensures)

pub returns-in_err-message_anchored : goal.returns-in_err-message_anchored
returns-in_err-message_anchored c l =
    handed-on _ _ c.from_residual.ensures.1
    ∙ brv-anchor _ _ _ _ _ (sym c.if-not-names_registry.ensures) (sym c.if-no_backers.ensures) _
    (sym (rw (c.in_err-message_anchored.ensures, c.read-credential.ensures) (message-in _ _ _ _ _ _ (λ i. omega (arith, c.type_inv.s i)) c.requires)))

pub returns : goal.returns
returns c l =
    c.authenticate_backer.ensures l
    ∙ brv-backed _ _ _ _ _ (sym c.if-not-names_registry.ensures) (sym c.if-no_backers.ensures)
    (sym (rw (c.in_ok-message_anchored.ensures, c.read-credential.ensures) (message-in _ _ _ _ _ _ (λ i. omega (arith, c.type_inv.s i)) c.requires)))
