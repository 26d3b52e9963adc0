use native.Mathlib.Omega.{arith}
use Rattle.cesr_sn.specs.Numbers.{value}
use Rattle.host_values.proofs.small.Goals as goal

pub returns : goal.returns
unfolding value
returns c = omega arith
