use mathlib.Core.Path.{sym, ◌∙◌}
use native.Mathlib.Omega.{arith}
use Rattle.laws.specs.Number.{Bytes}
use Rattle.cesr.proofs.Matters.{differ, agree}
use Rattle.registry_answer.specs.Answers.{accept_if, first_of}
use Rattle.registry_answer.proofs.AnswerLaws.{handed-on, or-nothing}
use Rattle.registry_authentication.proofs.AnchorUse.{issuer-in}
use Rattle.registry.specs.RegistryFolds.{vrt_answer}
use Rattle.registry.proofs.rotation.rotation_answer.Goals as goal

pub returns-then-ne : goal.returns-then-ne
unfolding vrt_answer first_of accept_if
returns-then-ne g c =
    let routed = differ c.read-registry.result.0 c.args.g.now.id.0 c.if-ne.ensures in
    rw (rw c.read-registry.ensures at routed)

pub returns-then-no_backers : goal.returns-then-no_backers
unfolding vrt_answer first_of accept_if
returns-then-no_backers g c =
    let routed = agree c.read-registry.result.0 c.args.g.now.id.0 c.if-ne.ensures in
    rw (rw c.read-registry.ensures at routed, ← c.if-no_backers.ensures)

pub returns-in_err-next_sn : goal.returns-in_err-next_sn
unfolding vrt_answer first_of accept_if
returns-in_err-next_sn g c =
    let routed = agree c.read-registry.result.0 c.args.g.now.id.0 c.if-ne.ensures in
    handed-on _ _ c.from_residual.ensures.1
    ∙ rw (rw c.read-registry.ensures at routed, ← c.if-no_backers.ensures, ← c.in_err-next_sn.ensures)

pub returns-then-ne-2 : goal.returns-then-ne-2
unfolding vrt_answer first_of accept_if
returns-then-ne-2 g c =
    let routed = agree c.read-registry.result.0 c.args.g.now.id.0 c.if-ne.ensures in
    let behind = differ c.read-prior.result.0 c.args.g.now.latest.0 c.if-ne-2.ensures in
    rw (rw c.read-registry.ensures at routed, ← c.if-no_backers.ensures, ← c.in_ok-next_sn.ensures, rw c.read-prior.ensures at behind)

pub returns-in_err-authenticate_issuer : goal.returns-in_err-authenticate_issuer
unfolding vrt_answer first_of accept_if
returns-in_err-authenticate_issuer g c =
    let routed = agree c.read-registry.result.0 c.args.g.now.id.0 c.if-ne.ensures in
    let behind = agree c.read-prior.result.0 c.args.g.now.latest.0 c.if-ne-2.ensures in
    let q = c.args in
    let b : Bytes q.s.now = λ i. omega (arith, c.type_inv.s i) in
    let sealed = (rw c.read-registry.ensures at c.in_err-authenticate_issuer.ensures) ∙ issuer-in q.s.now q.a.now q.g.now.issuer _ q.a.now.event.sn _ b c.requires in
    handed-on _ _ c.from_residual-in_err-authenticate_issuer.ensures.1
    ∙ rw (rw c.read-registry.ensures at routed, ← c.if-no_backers.ensures, ← c.in_ok-next_sn.ensures, rw c.read-prior.ensures at behind, ← sealed)

pub returns : goal.returns
unfolding vrt_answer first_of accept_if
returns g c =
    let routed = agree c.read-registry.result.0 c.args.g.now.id.0 c.if-ne.ensures in
    let behind = agree c.read-prior.result.0 c.args.g.now.latest.0 c.if-ne-2.ensures in
    let q = c.args in
    let b : Bytes q.s.now = λ i. omega (arith, c.type_inv.s i) in
    let sealed = (rw c.read-registry.ensures at c.in_ok-authenticate_issuer.ensures) ∙ issuer-in q.s.now q.a.now q.g.now.issuer _ q.a.now.event.sn _ b c.requires in
    rw (rw c.read-registry.ensures at routed, ← c.if-no_backers.ensures, ← c.in_ok-next_sn.ensures, rw c.read-prior.ensures at behind, ← sealed, c.members_answer.ensures) (sym (or-nothing _))
