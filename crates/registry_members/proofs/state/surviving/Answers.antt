use Rattle.std.proofs.Common.{◌∙◌, arith, ap, length, refl}
use lib.Seq.{take_all}
use Rattle.events.proofs.MemberLaws.{walk-head, walk-tail}
use Rattle.registry_members.specs.Updated.{survivors}
use Rattle.registry_members.proofs.Survivors.{survivors-count}
use Rattle.registry_members.proofs.state.surviving.Goals as goal
use Rattle.registry_members.proofs.state.surviving.Goals.{then-not-has, else-not-has}

pub loop-init : goal.loop-init
unfolding survivors
loop-init g c = record { rest = refl; count = refl; few = omega arith }

pub loop-preserved : goal.loop-preserved
loop-preserved g c =
    let cuts = g.L.Prefixes.list c.args.cuts in
    let current = g.C.Prefixes.list c.args.current in
    let f = c.loop in
    let x = walk-head current _ f.counter _ (omega arith) f.invariant.rest c.split-next.ensures.head in
    let count = survivors-count cuts current f.counter f.left _ _ (omega arith) x c.has.ensures f.invariant.count in
    let tail = walk-tail current _ _ f.counter f.invariant.rest c.split-next.ensures.tail in
    elim c.if-not-has.branch [
      | then-not-has w ↦ rw w.left-is record { rest = tail; count = rw w.if-not-has.true at count; few = omega arith }
      | else-not-has w ↦ rw w.left-is record { rest = tail; count = rw w.if-not-has.false at count; few = omega arith }
    ]

pub returns : goal.returns
returns g c =
    let f = c.loop in
    f.invariant.count ∙ ap (λ k. length (survivors (g.L.Prefixes.list c.args.cuts) k)) (take_all f.counter (g.C.Prefixes.list c.args.current) (omega arith))
