use native.Mathlib.Omega.{arith}
use lib.ListN.{length-set}
use Rattle.host_report.proofs.report.put_marks.Goals as goal

pub bounds-out-1 : goal.bounds-out-1
bounds-out-1 c = rw length-set (omega arith)

pub bounds-out-2 : goal.bounds-out-2
bounds-out-2 c = simp length-set (omega arith)
