use native.Mathlib.Omega.{arith}
use lib.Dec.{lit<}
use Rattle.cesr_sn.specs.Numbers.{value}
use Rattle.cesr_sn.proofs.Words.{words-eqb}
use Rattle.cesr_sn.proofs.Sn.is_last.Goals as goal

pub returns : goal.returns
unfolding value
returns c =
    let a = c.args in
    words-eqb a.self.hi a.self.lo 0xffff_ffff_ffff_ffff 0xffff_ffff_ffff_ffff (omega arith) (lit< tt)
