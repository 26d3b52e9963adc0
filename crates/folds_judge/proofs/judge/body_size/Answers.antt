use Rattle.folds_judge.specs.Judgement.{size_of}
use Rattle.folds_judge.proofs.judge.body_size.Goals as goal

pub returns : goal.returns
unfolding size_of
returns c =
    rw (c.read_u16-4.ensures, c.read_u16-3.ensures, c.read_u16-2.ensures, c.read_u16.ensures)
