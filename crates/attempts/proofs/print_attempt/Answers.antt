use Rattle.std.proofs.Common.{arith}
use Rattle.std.proofs.Math.ListN.{replicate}
use Rattle.attempts.proofs.Shown.{shown}
use Rattle.attempts.proofs.print_attempt.Goals as goal

pub returns-clause-line : goal.returns-clause-line
returns-clause-line g c =
    let a = c.answer_attempt-answered in
    let e = shown (replicate 32 0) a.new.out _ a.result.size (omega (arith, a.ensures.short)) a.ensures.size a.ensures.line in
    rw c.if-run.false (rw (e, c.position.ensures) at c.in_ok-write_all.ensures.bytes)
