use Rattle.std.proofs.Common.{Ok, Err}
use mathlib.Core.Path.{sym, ◌∙◌}
use native.Mathlib.Omega.{arith}
use borrow.Author.Tests.{leb-true}
use Rattle.registry_state.specs.States.{view_registry}
use Rattle.registry_answer.proofs.AnswerLaws.{handed-on}
use Rattle.registry.specs.RegistryFolds.{ingest_of, rotated_at}
use Rattle.registry.proofs.RotationLaws.{by-value, rotation-fits, rotation-within}
use Rattle.registry_inception.proofs.WellLaws.{well-by-view}
use Rattle.registry.proofs.WellLaws.{well-view}
use Rattle.registry.proofs.registry.ingest.Goals as goal

pub returns-then-not-well_formed-clause-outcome : goal.returns-then-not-well_formed-clause-outcome
unfolding ingest_of
returns-then-not-well_formed-clause-outcome c = rw (← c.if-not-well_formed.ensures)

pub returns-in_err-r-clause-outcome : goal.returns-in_err-r-clause-outcome
unfolding ingest_of
returns-in_err-r-clause-outcome c =
    let told = by-value _ _ c.args.g c.args.s.now (Err c.in_err-r.field-0.0) c.as_slice-current.ensures.value c.management_of.ensures c.in_err-r.ensures in
    rw (handed-on _ _ c.from_residual.ensures.1, ← c.if-not-well_formed.ensures) told

pub unwrap-backers-requires : goal.unwrap-backers-requires
unwrap-backers-requires c =
    let told = by-value _ _ c.args.g c.args.s.now (Ok c.in_ok-r.r) c.as_slice-current.ensures.value c.management_of.ensures c.in_ok-r.ensures in
    let fits = rotation-fits (view_registry c.args.g) c.args.s.now c.in_ok-r.r told in
    c.updated_members.ensures.ok ∙ rw c.as_slice-current.ensures.value fits

pub returns-clause-outcome : goal.returns-clause-outcome
unfolding ingest_of rotated_at
returns-clause-outcome c =
    let told = by-value _ _ c.args.g c.args.s.now (Ok c.in_ok-r.r) c.as_slice-current.ensures.value c.management_of.ensures c.in_ok-r.ensures in
    let list = rw (c.unwrap-backers.ensures, c.as_slice-current.ensures.value) at c.updated_members.ensures.list in
    rw (← c.if-not-well_formed.ensures, list, c.read.ensures) told

pub returns-clause-within : goal.returns-clause-within
unfolding rotated_at
returns-clause-within c =
    let q = c.args in
    let told = by-value _ _ c.args.g c.args.s.now (Ok c.in_ok-r.r) c.as_slice-current.ensures.value c.management_of.ensures c.in_ok-r.ensures in
    let list = rw (c.unwrap-backers.ensures, c.as_slice-current.ensures.value) at c.updated_members.ensures.list in
    let held = well-view q.g (sym c.if-not-well_formed.ensures) in
    let letters = rotation-within (view_registry q.g) q.s.now c.in_ok-r.r held.1 (λ i. omega (arith, c.type_inv.s i)) told in
    well-by-view _ (leb-true q.g.configs.count 8 held.0) (rw c.unwrap-backers.ensures at c.updated_members.ensures.count) (rw (list, c.read.ensures) letters)
