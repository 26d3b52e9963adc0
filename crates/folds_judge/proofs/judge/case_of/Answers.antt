use Prim.Native.Nat.{◌+◌}
use mathlib.Core.Path.{refl}
use native.Mathlib.Omega.{arith}
use Rattle.folds_judge.specs.Judgement.{parts_of}
use Rattle.folds_judge.proofs.Laws.{part-run}
use Rattle.folds_judge.proofs.judge.case_of.Goals as goal

pub returns : goal.returns
unfolding parts_of
returns c =
    let body = c.args.body.now in
    let a = c.read_u16-a.result in
    let b = c.read_u16.result in
    let d = c.read_u16-2.result in
    rw (c.bytes.ensures, c.bytes-2.ensures, c.bytes-3.ensures, c.bytes-4.ensures, c.bytes-5.ensures, part-run c.args.first.now 2 38 36 (omega arith), part-run body 0 a a (omega arith), part-run body a (a + b) b refl, part-run body (a + b) (a + b + d) d refl, part-run body (a + b + d) (a + b + d + c.read_u16-3.result) c.read_u16-3.result refl, c.read_u16-a.ensures, c.read_u16.ensures, c.read_u16-2.ensures, c.read_u16-3.ensures)
