use mathlib.Core.Path.{refl}
use Rattle.cesr.specs.Primitives.{is_basic}
use Rattle.cesr.proofs.Matter.is_basic.Goals as goal

pub returns : goal.returns
unfolding is_basic
returns c = refl
