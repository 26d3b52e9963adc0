use mathlib.Core.Path.{refl}
use Rattle.events.specs.Members.{view}
use Rattle.events.proofs.Members.empty.Goals as goal

pub returns : goal.returns
unfolding view
returns c = (refl, refl)
