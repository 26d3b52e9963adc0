use mathlib.Core.Path.{◌≡◌, ap, ◌∙◌}
use Rattle.std.proofs.Common.{Ok, Err}
use Rattle.laws.proofs.Tests.{and_left, and_right}
use Rattle.events_tel.specs.TelEvents.{members_in}
use Rattle.registry_answer.proofs.AnswerLaws.{handed-on}
use Rattle.registry_state_credential.specs.CredentialStates.{credential_at}
use Rattle.registry_management.specs.Managements.{view_management, view_management_read}
use Rattle.registry_credential_state.specs.CredentialParts.{revocation_at}
use Rattle.host_next.specs.ByteFolds.{Folded, credential_folded}
use Rattle.host_credential.specs.CredentialByteFolds.{credential_ingest}
use Rattle.host_credential.proofs.CredentialsIn.{credential-none, credential-some}
use Rattle.host_credential.proofs.CredentialFolds.{registry-none, registry-some, revocation, revocation-none, revocation-copied}
use Rattle.host_credential.proofs.credential_calls.revoked.Goals as goal

pub returns-then-not-is_whole : goal.returns-then-not-is_whole
returns-then-not-is_whole c =
    let z = c.args in
    let s = z.registry.now in
    let k = z.credential.now in
    let g = registry-none s _ _ c.start.ensures (view_management_read s c.read_management-g.result) c.read_management-g.ensures c.is_whole.ensures in
    let w = credential-none k _ _ c.start-2.ensures c.read-w.result c.read-w.ensures c.is_whole-2.ensures in
    rw (revocation-none s k z.attempt.now _ _ g w c.if-not-is_whole.true)

pub returns-in_err-o : goal.returns-in_err-o
returns-in_err-o c =
    let z = c.args in
    let s = z.registry.now in
    let k = z.credential.now in
    let r = c.read_management-g.result in
    let l = members_in s r.backers in
    let w = credential_at k c.read-w.result in
    let both = c.if-not-is_whole.false in
    let folded : credential_folded (revocation_at (view_management r.value l) w z.attempt.now (Err c.in_err-o.field-0.0)) ≡ credential_ingest s k z.attempt.now = revocation s z.attempt.now _ (registry-some s _ _ c.start.ensures (view_management_read s r) c.read_management-g.ensures c.is_whole.ensures (and_left _ _ both)) k w (credential-some k _ _ c.start-2.ensures c.read-w.result c.read-w.ensures c.is_whole-2.ensures (and_right _ _ both)) _ (c.in_err-o.ensures l w c.same_at-held.ensures) in
    rw (handed-on _ _ c.from_residual.ensures.1) (ap (λ (f : Folded). f.answer) folded)

pub returns-in_err-own_in : goal.returns-in_err-own_in
returns-in_err-own_in c =
    let z = c.args in
    let s = z.registry.now in
    let k = z.credential.now in
    let r = c.read_management-g.result in
    let l = members_in s r.backers in
    let w = credential_at k c.read-w.result in
    let both = c.if-not-is_whole.false in
    let folded : credential_folded (revocation_at (view_management r.value l) w z.attempt.now (Ok c.in_ok-o.o)) ≡ credential_ingest s k z.attempt.now = revocation s z.attempt.now _ (registry-some s _ _ c.start.ensures (view_management_read s r) c.read_management-g.ensures c.is_whole.ensures (and_left _ _ both)) k w (credential-some k _ _ c.start-2.ensures c.read-w.result c.read-w.ensures c.is_whole-2.ensures (and_right _ _ both)) _ (c.in_ok-o.ensures l w c.same_at-held.ensures) in
    rw (handed-on _ _ c.from_residual-in_err-own_in.ensures.1) ((rw (← c.in_err-own_in.ensures)) ∙ ap (λ (f : Folded). f.answer) folded)

pub returns-in_err-transition_in : goal.returns-in_err-transition_in
returns-in_err-transition_in c =
    let z = c.args in
    let s = z.registry.now in
    let k = z.credential.now in
    let r = c.read_management-g.result in
    let l = members_in s r.backers in
    let w = credential_at k c.read-w.result in
    let both = c.if-not-is_whole.false in
    let folded : credential_folded (revocation_at (view_management r.value l) w z.attempt.now (Ok c.in_ok-o.o)) ≡ credential_ingest s k z.attempt.now = revocation s z.attempt.now _ (registry-some s _ _ c.start.ensures (view_management_read s r) c.read_management-g.ensures c.is_whole.ensures (and_left _ _ both)) k w (credential-some k _ _ c.start-2.ensures c.read-w.result c.read-w.ensures c.is_whole-2.ensures (and_right _ _ both)) _ (c.in_ok-o.ensures l w c.same_at-held.ensures) in
    rw (handed-on _ _ c.from_residual-in_err-transition_in.ensures.1) ((rw (← c.in_ok-own_in.ensures, ← c.in_err-transition_in.ensures)) ∙ ap (λ (f : Folded). f.answer) folded)

pub returns : goal.returns
returns c =
    let z = c.args in
    let s = z.registry.now in
    let k = z.credential.now in
    let r = c.read_management-g.result in
    let l = members_in s r.backers in
    let w = credential_at k c.read-w.result in
    let both = c.if-not-is_whole.false in
    let folded : credential_folded (revocation_at (view_management r.value l) w z.attempt.now (Ok c.in_ok-o.o)) ≡ credential_ingest s k z.attempt.now = revocation s z.attempt.now _ (registry-some s _ _ c.start.ensures (view_management_read s r) c.read_management-g.ensures c.is_whole.ensures (and_left _ _ both)) k w (credential-some k _ _ c.start-2.ensures c.read-w.result c.read-w.ensures c.is_whole-2.ensures (and_right _ _ both)) _ (c.in_ok-o.ensures l w c.same_at-held.ensures) in
    revocation-copied (view_management r.value l) z.attempt.now k c.read-w.result c.in_ok-o.o (rw (← c.in_ok-own_in.ensures) c.in_ok-transition_in.ensures) ∙ folded
