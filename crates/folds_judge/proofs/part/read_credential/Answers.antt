use mathlib.Core.Path.{sym, ◌∙◌}
use native.Mathlib.Omega.{arith}
use Rattle.registry_state_credential.proofs.CodesCredential.{codes-credential}
use Rattle.folds_judge.specs.Judgement.{credential_in}
use Rattle.folds_judge.proofs.Laws.{some-whole, told, good-well}
use Rattle.folds_judge.proofs.part.read_credential.Goals as goal

pub returns-clause-view : goal.returns-clause-view
unfolding credential_in
returns-clause-view c = rw (c.whole.ensures, ← c.start.ensures, ← c.read.ensures)

pub returns-clause-well : goal.returns-clause-well
returns-clause-well c =
    rw c.whole.ensures
    (some-whole _ _ _ (λ h. good-well _ (told codes-credential c.args.s.now _ (λ i. omega (arith, c.type_inv.s i)) (c.read.ensures ∙ rw c.start.ensures) h).1))

pub returns-clause-bytes : goal.returns-clause-bytes
returns-clause-bytes c =
    rw c.whole.ensures
    (some-whole _ _ _ (λ h. sym (told codes-credential c.args.s.now _ (λ i. omega (arith, c.type_inv.s i)) (c.read.ensures ∙ rw c.start.ensures) h).0))
