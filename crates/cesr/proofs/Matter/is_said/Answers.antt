use mathlib.Core.Path.{refl}
use Rattle.cesr.specs.Primitives.{is_said}
use Rattle.cesr.proofs.Matter.is_said.Goals as goal

pub returns : goal.returns
unfolding is_said
returns c = refl
