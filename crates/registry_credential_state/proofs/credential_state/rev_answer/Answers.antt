use mathlib.Core.Path.{sym}
use native.Mathlib.Omega.{arith}
use Rattle.registry_authentication.proofs.AnchorUse.{issuer-in}
use Rattle.registry_credential_state.proofs.CredentialLaws.{rev-routed, rev-flavor, rev-issuer}
use Rattle.registry_credential_state.proofs.credential_state.rev_answer.Goals as goal

pub returns-then-not-same_at : goal.returns-then-not-same_at
returns-then-not-same_at c l = rev-routed _ _ _ _ _ (sym c.if-not-same_at.ensures)

pub returns-then-not-no_backers : goal.returns-then-not-no_backers
returns-then-not-no_backers c l =
    rev-flavor _ _ _ _ _ (sym c.if-not-same_at.ensures) (sym c.if-not-no_backers.ensures)

pub returns : goal.returns
returns c l =
    rev-issuer _ _ _ _ _ (sym c.if-not-same_at.ensures) (sym c.if-not-no_backers.ensures) _
    (rw (c.authenticate_issuer.ensures, c.read-credential.ensures) (issuer-in _ _ _ _ _ _ (λ i. omega (arith, c.type_inv.s i)) c.requires))
