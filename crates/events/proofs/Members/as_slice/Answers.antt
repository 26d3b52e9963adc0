use Rattle.cesr.proofs.Views.{take_counted}
use Rattle.events.specs.Members.{view}
use Rattle.events.proofs.Members.as_slice.Goals as goal

pub returns-clause-value : goal.returns-clause-value
unfolding view
returns-clause-value c =
    let m = c.args.self.now in
    rw c.size-n.ensures.value (take_counted m.count m.items)
