use native.Mathlib.Omega.{arith}
use Rattle.cesr.proofs.Views.{take_counted}
use Rattle.events.specs.Members.{view}
use Rattle.events.proofs.Members.trimmed.Goals as goal

pub returns : goal.returns
unfolding view
returns c =
    let m = c.args.self.now in
    (rw c.size.ensures.value (take_counted m.count m.items), omega arith)
