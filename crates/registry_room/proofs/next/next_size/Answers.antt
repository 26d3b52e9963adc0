use native.Mathlib.Omega.{arith}
use Rattle.registry_room.proofs.Counts.{counted, sized}
use borrow.Author.Rules.{rules}
use Rattle.registry_room.proofs.next.next_size.Goals as goal

pub overflow_add-count : goal.overflow_add-count
overflow_add-count c =
    let a = c.args in
    omega (arith, (counted a.held.now a.s.now a.p _ _ c.surviving.ensures c.at_most_16.ensures).1)

pub overflow_add-result : goal.overflow_add-result
overflow_add-result c =
    let a = c.args in
    omega (arith, sized a.held.now a.s.now a.p _ _ _ c.surviving.ensures c.at_most_16.ensures c.size.ensures (search rules))

pub overflow_mul-result : goal.overflow_mul-result
overflow_mul-result c =
    let a = c.args in
    omega (arith, sized a.held.now a.s.now a.p _ _ _ c.surviving.ensures c.at_most_16.ensures c.size.ensures (search rules))

pub overflow_add-result-2 : goal.overflow_add-result-2
overflow_add-result-2 c =
    let a = c.args in
    omega (arith, sized a.held.now a.s.now a.p _ _ _ c.surviving.ensures c.at_most_16.ensures c.size.ensures (search rules))

pub returns : goal.returns
returns c =
    let a = c.args in
    (sized a.held.now a.s.now a.p _ _ _ c.surviving.ensures c.at_most_16.ensures c.size.ensures (search rules)).1.1
