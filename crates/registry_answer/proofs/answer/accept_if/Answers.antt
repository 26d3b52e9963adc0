use Rattle.registry_answer.specs.Answers.{accept_if}
use Rattle.registry_answer.proofs.answer.accept_if.Goals as goal

pub returns-then-test : goal.returns-then-test
unfolding accept_if
returns-then-test c = rw c.if-test.true

pub returns : goal.returns
unfolding accept_if
returns c = rw c.if-test.false
