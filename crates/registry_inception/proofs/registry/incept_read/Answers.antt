use Rattle.registry_answer.proofs.AnswerLaws.{handed-on}
use Rattle.registry_inception.specs.InceptionFolds.{incept_of}
use Rattle.registry_inception.proofs.InceptionLaws.{incept-accepted, incept-refused}
use Rattle.registry_inception.proofs.registry.incept_read.Goals as goal

pub returns-in_default : goal.returns-in_default
unfolding incept_of
returns-in_default c = rw (← c.in_default.ensures.view)

pub returns-in_err-incept_answer : goal.returns-in_err-incept_answer
returns-in_err-incept_answer c =
    rw (handed-on _ _ c.from_residual.ensures.1) (incept-refused _ _ c.in-Some.ensures.view _ c.in_err-incept_answer.ensures)

pub returns : goal.returns
returns c = incept-accepted _ _ c.in-Some.ensures.view c.in_ok-incept_answer.ensures
