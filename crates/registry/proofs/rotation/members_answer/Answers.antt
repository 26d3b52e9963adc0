use Prim.Native.Nat.{◌+◌, min}
use mathlib.Core.Path.{◌≡◌, sym, ◌∙◌}
use native.Mathlib.Omega.{arith}
use borrow.Author.Tests.{le-leb, lt-leb}
use Rattle.registry_answer.specs.Answers.{accept_if, first_of}
use Rattle.registry_answer.proofs.AnswerLaws.{handed-on, or-nothing}
use Rattle.registry.specs.RegistryFolds.{vrt_backers}
use Rattle.registry.proofs.RotationLaws.{count-after}
use Rattle.registry.proofs.rotation.members_answer.Goals as goal

pub returns-in_err-check_deltas : goal.returns-in_err-check_deltas
unfolding vrt_backers first_of
returns-in_err-check_deltas g c =
    handed-on _ _ c.from_residual.ensures.1 ∙ rw (← c.in_err-check_deltas.ensures.answer)

pub returns-in_err-check_current : goal.returns-in_err-check_current
unfolding vrt_backers first_of
returns-in_err-check_current g c =
    handed-on _ _ c.from_residual-in_err-check_current.ensures.1
    ∙ rw (← c.in_ok-check_deltas.ensures.answer, ← c.in_err-check_current.ensures.answer)

pub returns-then-count-gt16 : goal.returns-then-count-gt16
unfolding vrt_backers first_of accept_if
returns-then-count-gt16 g c =
    let many = count-after _ _ _ _ _ c.surviving.ensures c.size.ensures in
    rw (← c.in_ok-check_deltas.ensures.answer, ← c.in_ok-check_current.ensures.answer, many, lt-leb (c.surviving.result + c.size.result) 16 (omega arith))

pub returns-in_err-threshold_fits : goal.returns-in_err-threshold_fits
unfolding vrt_backers first_of accept_if
returns-in_err-threshold_fits g c =
    let n = c.saturating_add-count.result in
    let sum : n ≡ c.surviving.result + c.size.result = omega arith in
    let many = count-after _ _ _ _ _ c.surviving.ensures c.size.ensures ∙ sym sum in
    handed-on _ _ c.from_residual-in_err-threshold_fits.ensures.1
    ∙ rw (← c.in_ok-check_deltas.ensures.answer, ← c.in_ok-check_current.ensures.answer, many, le-leb n 16 (omega arith), ← c.in_err-threshold_fits.ensures)

pub returns : goal.returns
unfolding vrt_backers first_of accept_if
returns g c =
    let n = c.saturating_add-count.result in
    let sum : n ≡ c.surviving.result + c.size.result = omega arith in
    let many = count-after _ _ _ _ _ c.surviving.ensures c.size.ensures ∙ sym sum in
    let few : min n 16 ≡ n = omega arith in
    rw (← c.in_ok-check_deltas.ensures.answer, ← c.in_ok-check_current.ensures.answer, many, le-leb n 16 (omega arith), ← c.in_ok-threshold_fits.ensures, c.enough_receipts.ensures, few) (sym (or-nothing _))
