use mathlib.Core.Path.{◌≡◌, subst, ◌∙◌}
use Rattle.std.proofs.Common.{Ok, Err}
use Rattle.cesr.specs.Primitives.{eq_said}
use Rattle.cesr.proofs.Matters.{eq-fields}
use Rattle.events.specs.Members.{view}
use Rattle.registry_state.specs.States.{Registry, view_registry}
use Rattle.registry_backer.specs.Attempts.{decode_of}
use Rattle.registry_answer.proofs.AnswerLaws.{handed-on}
use Rattle.registry_credential_state.specs.CredentialFolds.{ingest_decoded, ingest_of}
use Rattle.registry_credential_state.specs.CredentialParts.{revocation_at}
use Rattle.registry_credential_state.proofs.credential_state.ingest.Goals as goal

pub returns-then-not-well_formed : goal.returns-then-not-well_formed
unfolding ingest_of
returns-then-not-well_formed c = rw (← c.well_formed-2.ensures, ← c.well_formed-3.ensures, c.if-not-well_formed.true)

pub returns-in_err-r : goal.returns-in_err-r
unfolding ingest_of
returns-in_err-r c =
    let z = c.args in
    let read : revocation_at (view_registry z.g) z.w z.s.now (Err c.in_err-r.field-0.0) ≡ ingest_decoded (view_registry z.g) z.w (decode_of z.s.now) = subst (λ (v : Registry). c.eq.result ≡ eq_said z.w.registry v.id → revocation_at v z.w z.s.now (Err c.in_err-r.field-0.0) ≡ ingest_decoded v z.w (decode_of z.s.now)) c.management_of.ensures (c.in_err-r.ensures (view z.g.backers) z.w) (c.eq.ensures ∙ eq-fields z.w.registry.0 z.g.id.0) in
    rw (handed-on _ _ c.from_residual.ensures.1, ← c.well_formed-2.ensures, ← c.well_formed-3.ensures, c.if-not-well_formed.false, ← read)

pub returns-in_err-own_of : goal.returns-in_err-own_of
unfolding ingest_of
returns-in_err-own_of c =
    let z = c.args in
    let read : revocation_at (view_registry z.g) z.w z.s.now (Ok c.in_ok-r.r) ≡ ingest_decoded (view_registry z.g) z.w (decode_of z.s.now) = subst (λ (v : Registry). c.eq.result ≡ eq_said z.w.registry v.id → revocation_at v z.w z.s.now (Ok c.in_ok-r.r) ≡ ingest_decoded v z.w (decode_of z.s.now)) c.management_of.ensures (c.in_ok-r.ensures (view z.g.backers) z.w) (c.eq.ensures ∙ eq-fields z.w.registry.0 z.g.id.0) in
    rw (handed-on _ _ c.from_residual-in_err-own_of.ensures.1, ← c.well_formed-2.ensures, ← c.well_formed-3.ensures, c.if-not-well_formed.false, ← read, ← c.in_err-own_of.ensures)

pub returns-in_err-transition : goal.returns-in_err-transition
unfolding ingest_of
returns-in_err-transition c =
    let z = c.args in
    let read : revocation_at (view_registry z.g) z.w z.s.now (Ok c.in_ok-r.r) ≡ ingest_decoded (view_registry z.g) z.w (decode_of z.s.now) = subst (λ (v : Registry). c.eq.result ≡ eq_said z.w.registry v.id → revocation_at v z.w z.s.now (Ok c.in_ok-r.r) ≡ ingest_decoded v z.w (decode_of z.s.now)) c.management_of.ensures (c.in_ok-r.ensures (view z.g.backers) z.w) (c.eq.ensures ∙ eq-fields z.w.registry.0 z.g.id.0) in
    rw (handed-on _ _ c.from_residual-in_err-transition.ensures.1, ← c.well_formed-2.ensures, ← c.well_formed-3.ensures, c.if-not-well_formed.false, ← read, ← c.in_ok-own_of.ensures, ← c.read.ensures, ← c.read-2.ensures, ← c.in_err-transition.ensures)

pub returns : goal.returns
unfolding ingest_of
returns c =
    let z = c.args in
    let read : revocation_at (view_registry z.g) z.w z.s.now (Ok c.in_ok-r.r) ≡ ingest_decoded (view_registry z.g) z.w (decode_of z.s.now) = subst (λ (v : Registry). c.eq.result ≡ eq_said z.w.registry v.id → revocation_at v z.w z.s.now (Ok c.in_ok-r.r) ≡ ingest_decoded v z.w (decode_of z.s.now)) c.management_of.ensures (c.in_ok-r.ensures (view z.g.backers) z.w) (c.eq.ensures ∙ eq-fields z.w.registry.0 z.g.id.0) in
    rw (c.read-3.ensures, ← c.well_formed-2.ensures, ← c.well_formed-3.ensures, c.if-not-well_formed.false, ← read, ← c.in_ok-own_of.ensures, ← c.read.ensures, ← c.read-2.ensures, ← c.in_ok-transition.ensures)
