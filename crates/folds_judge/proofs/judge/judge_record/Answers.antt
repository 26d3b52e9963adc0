use mathlib.Core.Path.{◌∙◌}
use Rattle.folds_judge.specs.Judgement.{judge_of}
use Rattle.folds_judge.proofs.judge.judge_record.Goals as goal

pub returns-in-Some : goal.returns-in-Some
unfolding judge_of
returns-in-Some c =
    c.judge_call.ensures ∙ rw (c.case_of.ensures, ← c.read_u8.ensures, ← c.in-Some.ensures)

pub returns-in-None : goal.returns-in-None
unfolding judge_of
returns-in-None c = rw (← c.read_u8.ensures, ← c.in-None.ensures)
