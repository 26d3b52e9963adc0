use mathlib.Core.Path.{sym, ◌∙◌}
use native.Mathlib.Omega.{arith}
use Rattle.registry_state.proofs.CodesState.{codes-registry}
use Rattle.registry_state.specs.States.{view_registry}
use Rattle.folds_judge.specs.Judgement.{registry_in}
use Rattle.folds_judge.proofs.Laws.{whole-viewed, some-whole, told}
use Rattle.folds_judge.proofs.part.read_registry.Goals as goal

pub returns-clause-view : goal.returns-clause-view
unfolding registry_in
returns-clause-view c =
    rw (c.whole.ensures, ← c.start.ensures, ← c.read.ensures.read) (whole-viewed view_registry _ c.read.result.value)

pub returns-clause-bytes : goal.returns-clause-bytes
returns-clause-bytes c =
    rw c.whole.ensures
    (some-whole _ _ _ (λ h. sym (told codes-registry c.args.s.now _ (λ i. omega (arith, c.type_inv.s i)) (c.read.ensures.read ∙ rw c.start.ensures) h).0))
