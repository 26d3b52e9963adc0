use native.Mathlib.Omega.{arith}
use Rattle.cesr_sn.specs.Numbers.{value}
use Rattle.cesr_sn.proofs.Words.{next_low, next-carry, next-round}
use Rattle.cesr_sn.proofs.Sn.next.Goals as goal

pub returns-then-self-lt18446744073709551615 : goal.returns-then-self-lt18446744073709551615
unfolding value
returns-then-self-lt18446744073709551615 c = let a = c.args in next_low a.self.hi a.self.lo (omega arith) (omega arith)

pub returns-then-self-lt18446744073709551615-2 : goal.returns-then-self-lt18446744073709551615-2
unfolding value
returns-then-self-lt18446744073709551615-2 c =
    let a = c.args in
    next-carry a.self.hi a.self.lo (omega arith) (omega arith)

pub returns : goal.returns
unfolding value
returns c =
    let a = c.args in
    next-round a.self.hi a.self.lo (omega arith) (omega arith)
