use native.Mathlib.Omega.{arith}
use Rattle.registry_copy.proofs.Copies.{next_sizes, next-refused, next-stored}
use Rattle.registry_copy.proofs.copy.write_next.Goals as goal

pub returns-then-not-is_enough-clause-stored : goal.returns-then-not-is_enough-clause-stored
returns-then-not-is_enough-clause-stored c =
    let a = c.args in
    next-refused a.held.now a.s.now a.p a.out.now c.if-not-is_enough.ensures

pub returns : goal.returns
returns c =
    let a = c.args in
    let n = next_sizes a.held.now a.s.now a.p a.out.now c.if-not-is_enough.ensures in record {
      size = omega (arith, n, c.size-behind.ensures, c.copy_backers-count.ensures.count);
      stored = next-stored a.held.now a.s.now a.p a.out.now _ _ _ c.size-behind.ensures c.if-not-is_enough.ensures c.copy_front.ensures.1 c.copy_front.auto.out c.copy_backers-count.ensures.stored;
    }
