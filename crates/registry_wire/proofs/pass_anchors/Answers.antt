use Rattle.registry_wire.specs.Attempts.{read_anchor, read_anchors, passed_anchors}
use Rattle.codec.proofs.Loops.{section-none, section-one}
use Rattle.registry_wire.proofs.pass_anchors.Goals as goal

pub returns-then-n-eq0 : goal.returns-then-n-eq0
unfolding passed_anchors read_anchors
returns-then-n-eq0 c =
    let n = c.count_up_to-n in
    rw (section-none read_anchor _ _ 1 _ n.ensures c.if-n-eq0.true, ← n.ensures)

pub returns : goal.returns
unfolding passed_anchors read_anchors
returns c =
    let n = c.count_up_to-n in
    rw (section-one read_anchor _ _ _ n.ensures c.if-n-eq0.false, ← c.pass_anchor-next.ensures, ← n.ensures)
