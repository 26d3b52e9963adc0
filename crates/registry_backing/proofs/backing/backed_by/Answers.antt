use Prim.Native.Nat.{min}
use mathlib.Core.Path.{◌≡◌, sym, ap, ◌∙◌}
use native.Mathlib.Omega.{arith}
use lib.ListN.{length}
use Rattle.events_toad.specs.Toads.{exact_ok}
use Rattle.registry_verification.specs.SignatureSections.{signatures_in}
use Rattle.registry_answer.proofs.AnswerLaws.{handed-on}
use Rattle.registry_backing.specs.Backings.{enough_receipts}
use Rattle.registry_backing.proofs.BackedLaws.{repeated, unfit, receipted}
use Rattle.registry_backing.proofs.backing.backed_by.Goals as goal

pub returns-in_err-repeat : goal.returns-in_err-repeat
returns-in_err-repeat c l k =
    handed-on _ _ c.from_residual.ensures.1 ∙ repeated _ _ _ _ (sym c.in_err-repeat.was ∙ k.members)

pub returns-then-not-is_exact : goal.returns-then-not-is_exact
returns-then-not-is_exact c l k =
    unfit _ _ _ (sym c.in_ok-repeat.was ∙ k.members) (ap (exact_ok c.args.toad.0) (sym k.count) ∙ sym c.if-not-is_exact.ensures)

pub returns : goal.returns
returns c l k =
    let q = c.args in
    let few : min q.count 16 ≡ length l = omega (arith, k.count, k.few) in
    c.enough_receipts.ensures
    ∙ ap (λ n. enough_receipts q.toad.0 n (signatures_in q.s.now q.signatures)) few
    ∙ receipted _ _ _ (sym c.in_ok-repeat.was ∙ k.members) (ap (exact_ok q.toad.0) (sym k.count) ∙ sym c.if-not-is_exact.ensures)
