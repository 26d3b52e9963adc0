use Rattle.attempts.proofs.line.number.Goals as goal

pub returns-in-Err : goal.returns-in-Err
returns-in-Err c = rw c.in-Err.is c.number.ensures
