use Rattle.events.specs.Members.{view}
use Rattle.registry_answer.proofs.AnswerLaws.{handed-on}
use mathlib.Core.Path.{◌≡◌, subst}
use Rattle.std.proofs.Common.{Ok}
use Rattle.registry_management.specs.States.{Registry, view_registry}
use Rattle.registry_backer.specs.Attempts.{decode_of}
use Rattle.registry_issue.specs.IssueFolds.{issue_at, incept_decoded, incept_of}
use Rattle.registry_issue.proofs.credential_state.incept.Goals as goal

pub returns-then-not-well_formed : goal.returns-then-not-well_formed
unfolding incept_of
returns-then-not-well_formed c = rw (← c.if-not-well_formed.ensures)

pub returns-in_err-r : goal.returns-in_err-r
unfolding incept_of
returns-in_err-r c =
    rw (handed-on _ _ c.from_residual.ensures.1, ← c.if-not-well_formed.ensures, ← c.management_of.ensures)
    (c.in_err-r.ensures (view c.args.g.backers))

pub returns-in_err-own_of : goal.returns-in_err-own_of
unfolding incept_of
returns-in_err-own_of c =
    let z = c.args in
    let issued : issue_at (view_registry z.g) z.s.now (Ok c.in_ok-r.r) ≡ incept_decoded (view_registry z.g) (decode_of z.s.now) = subst (λ (w : Registry). issue_at w z.s.now (Ok c.in_ok-r.r) ≡ incept_decoded w (decode_of z.s.now)) c.management_of.ensures (c.in_ok-r.ensures (view z.g.backers)) in
    rw (handed-on _ _ c.from_residual-in_err-own_of.ensures.1, ← c.if-not-well_formed.ensures, ← issued, ← c.in_err-own_of.ensures)

pub returns : goal.returns
unfolding incept_of
returns c =
    let z = c.args in
    let issued : issue_at (view_registry z.g) z.s.now (Ok c.in_ok-r.r) ≡ incept_decoded (view_registry z.g) (decode_of z.s.now) = subst (λ (w : Registry). issue_at w z.s.now (Ok c.in_ok-r.r) ≡ incept_decoded w (decode_of z.s.now)) c.management_of.ensures (c.in_ok-r.ensures (view z.g.backers)) in
    rw (c.read.ensures, c.read-2.ensures, c.read-3.ensures, ← c.if-not-well_formed.ensures, ← issued, ← c.in_ok-own_of.ensures)
