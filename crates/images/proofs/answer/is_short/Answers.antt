use mathlib.Core.Path.{sym}
use native.Mathlib.Omega.{arith}
use lib.ListN.{length}
use lib.Seq.{length-take-le}
use borrow.Author.Tests.{eq-eqb, ne_eqb, lt-ltb, le-ltb}
use Rattle.images.specs.Judgement.{short_of}
use Rattle.images.proofs.answer.is_short.Goals as goal

pub returns-then-size-eq0 : goal.returns-then-size-eq0
unfolding short_of
returns-then-size-eq0 c = rw (eq-eqb c.args.size 0 c.if-size-eq0.true)

pub returns-then-out-size : goal.returns-then-out-size
unfolding short_of
returns-then-out-size c =
    let z = c.args in
    rw (ne_eqb z.size 0 c.if-size-eq0.false, lt-ltb (length z.out.now) z.size (omega arith))

pub slice_bounds-refused_short-end-2 : goal.slice_bounds-refused_short-end-2
slice_bounds-refused_short-end-2 c = sym (length-take-le _ _ (omega arith))

pub returns : goal.returns
unfolding short_of
returns c =
    let z = c.args in
    rw (ne_eqb z.size 0 c.if-size-eq0.false, le-ltb (length z.out.now) z.size (omega arith)) c.refused_short.ensures
