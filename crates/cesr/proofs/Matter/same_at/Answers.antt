use mathlib.Core.Path.{sym, ◌∙◌}
use native.Mathlib.Omega.{arith}
use Prim.Native.Nat.{◌+◌, ◌≤◌}
use lib.ListN.{length}
use borrow.Author.Tests.{leb-true, not-true, not-false}
use Rattle.cesr.proofs.Matters.{eq-fields, matter-none, apart-whole, same_whole}
use Rattle.cesr.proofs.Matter.same_at.Goals as goal

pub returns-then-not-has_room : goal.returns-then-not-has_room
returns-then-not-has_room c =
    let a = c.args in
    rw (sym (matter-none a.s.now a.at (sym c.has_room.ensures ∙ not-true _ c.if-not-has_room.true-raw)), sym c.none.ensures) (c.eq.ensures ∙ eq-fields c.none.result c.args.self)

pub overflow_add-at : goal.overflow_add-at
overflow_add-at c =
    let fits : (c.args.at + 33 ≤ length c.args.s.now) =
    let a = c.args in
    leb-true (a.at + 33) (length a.s.now) (sym c.has_room.ensures ∙ not-false _ c.if-not-has_room.false-raw) in
    omega (arith, fits)

pub returns-then-first-self : goal.returns-then-first-self
returns-then-first-self c =
    let a = c.args in
    apart-whole a.self a.s.now a.at (sym c.has_room.ensures ∙ not-false _ c.if-not-has_room.false-raw) (λ e. c.if-first-self.true (c.read_u64-first.ensures ∙ e))

pub bounds-s-at : goal.bounds-s-at
bounds-s-at c =
    let fits : (c.args.at + 33 ≤ length c.args.s.now) =
    let a = c.args in
    leb-true (a.at + 33) (length a.s.now) (sym c.has_room.ensures ∙ not-false _ c.if-not-has_room.false-raw) in
    omega (arith, fits)

pub overflow_cast-result : goal.overflow_cast-result
overflow_cast-result c = omega (arith, c.shared_slice_known-2-1.given c.args.at)

pub overflow_add-at-2 : goal.overflow_add-at-2
overflow_add-at-2 c =
    let fits : (c.args.at + 33 ≤ length c.args.s.now) =
    let a = c.args in
    leb-true (a.at + 33) (length a.s.now) (sym c.has_room.ensures ∙ not-false _ c.if-not-has_room.false-raw) in
    omega (arith, fits)

pub overflow_add-at-3 : goal.overflow_add-at-3
overflow_add-at-3 c =
    let fits : (c.args.at + 33 ≤ length c.args.s.now) =
    let a = c.args in
    leb-true (a.at + 33) (length a.s.now) (sym c.has_room.ensures ∙ not-false _ c.if-not-has_room.false-raw) in
    omega (arith, fits)

pub overflow_add-at-4 : goal.overflow_add-at-4
overflow_add-at-4 c =
    let fits : (c.args.at + 33 ≤ length c.args.s.now) =
    let a = c.args in
    leb-true (a.at + 33) (length a.s.now) (sym c.has_room.ensures ∙ not-false _ c.if-not-has_room.false-raw) in
    omega (arith, fits)

pub returns : goal.returns
returns c =
    let a = c.args in
    rw (c.read_u64-3.ensures, c.read_u64-2.ensures, c.read_u64.ensures, c.read_u64-first.ensures) (same_whole a.self a.s.now a.at (sym c.has_room.ensures ∙ not-false _ c.if-not-has_room.false-raw))
