use mathlib.Core.Path.{◌≡◌, ap, ◌∙◌}
use Rattle.std.proofs.Common.{Ok, Err}
use Rattle.registry_answer.proofs.AnswerLaws.{handed-on}
use Rattle.events_tel.specs.TelEvents.{members_in}
use Rattle.registry_management.specs.Managements.{view_management, view_management_read}
use Rattle.registry_issue.specs.IssueFolds.{issue_at}
use Rattle.host_next.specs.ByteFolds.{Folded, credential_folded}
use Rattle.host_credential.specs.CredentialByteFolds.{credential_incept}
use Rattle.host_credential.proofs.CredentialFolds.{registry-none, registry-some, issue, issue-copied}
use Rattle.host_credential.proofs.credential_calls.issued.Goals as goal

pub returns-then-not-is_whole : goal.returns-then-not-is_whole
unfolding credential_incept
returns-then-not-is_whole c =
    let s = c.args.registry.now in
    rw (registry-none s _ _ c.start.ensures (view_management_read s c.read_management-g.result) c.read_management-g.ensures c.is_whole.ensures c.if-not-is_whole.true)

pub returns-in_err-o : goal.returns-in_err-o
returns-in_err-o c =
    let z = c.args in
    let s = z.registry.now in
    let r = c.read_management-g.result in
    let l = members_in s r.backers in
    let folded : credential_folded (issue_at (view_management r.value l) z.attempt.now (Err c.in_err-o.field-0.0)) ≡ credential_incept s z.attempt.now = issue s z.attempt.now _ (registry-some s _ _ c.start.ensures (view_management_read s r) c.read_management-g.ensures c.is_whole.ensures c.if-not-is_whole.false) _ (c.in_err-o.ensures l) in
    rw (handed-on _ _ c.from_residual.ensures.1) (ap (λ (f : Folded). f.answer) folded)

pub returns-in_err-own_in : goal.returns-in_err-own_in
returns-in_err-own_in c =
    let z = c.args in
    let s = z.registry.now in
    let r = c.read_management-g.result in
    let l = members_in s r.backers in
    let folded : credential_folded (issue_at (view_management r.value l) z.attempt.now (Ok c.in_ok-o.o)) ≡ credential_incept s z.attempt.now = issue s z.attempt.now _ (registry-some s _ _ c.start.ensures (view_management_read s r) c.read_management-g.ensures c.is_whole.ensures c.if-not-is_whole.false) _ (c.in_ok-o.ensures l) in
    rw (handed-on _ _ c.from_residual-in_err-own_in.ensures.1) (c.in_err-own_in.ensures ∙ ap (λ (f : Folded). f.answer) folded)

pub returns : goal.returns
returns c =
    let z = c.args in
    let s = z.registry.now in
    let r = c.read_management-g.result in
    let l = members_in s r.backers in
    let folded : credential_folded (issue_at (view_management r.value l) z.attempt.now (Ok c.in_ok-o.o)) ≡ credential_incept s z.attempt.now = issue s z.attempt.now _ (registry-some s _ _ c.start.ensures (view_management_read s r) c.read_management-g.ensures c.is_whole.ensures c.if-not-is_whole.false) _ (c.in_ok-o.ensures l) in
    issue-copied (view_management r.value l) z.attempt.now c.in_ok-o.o c.in_ok-own_in.ensures ∙ folded
