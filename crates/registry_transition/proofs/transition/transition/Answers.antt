use mathlib.Core.Path.{◌∙◌}
use Rattle.cesr.proofs.Matters.{differ, agree}
use Rattle.registry_answer.specs.Answers.{accept_if, first_of}
use Rattle.registry_answer.proofs.AnswerLaws.{handed-on}
use Rattle.registry_transition.specs.Transitions.{transition}
use Rattle.registry_transition.proofs.transition.transition.Goals as goal

pub returns-then-ne : goal.returns-then-ne
unfolding transition first_of accept_if
returns-then-ne c = rw (differ _ _ c.if-ne.ensures)

pub returns-in_err-next_sn : goal.returns-in_err-next_sn
unfolding transition first_of accept_if
returns-in_err-next_sn c =
    handed-on _ _ c.from_residual.ensures.1 ∙ rw (agree _ _ c.if-ne.ensures, ← c.in_err-next_sn.ensures)

pub returns-then-ne-2 : goal.returns-then-ne-2
unfolding transition first_of accept_if
returns-then-ne-2 c =
    rw (agree _ _ c.if-ne.ensures, ← c.in_ok-next_sn.ensures, differ _ _ c.if-ne-2.ensures)

pub returns : goal.returns
unfolding transition first_of accept_if
returns c =
    rw (agree _ _ c.if-ne.ensures, ← c.in_ok-next_sn.ensures, agree _ _ c.if-ne-2.ensures)
