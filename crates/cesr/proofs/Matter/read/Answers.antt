use mathlib.Core.Path.{sym, ◌∙◌}
use native.Mathlib.Omega.{arith}
use Prim.Native.Nat.{◌+◌, ◌≤◌}
use lib.ListN.{length}
use borrow.Author.Tests.{leb-true}
use Rattle.cesr.proofs.Matters.{matter-whole, matter-none}
use Rattle.cesr.proofs.Matter.read.Goals as goal

pub bounds-s-at : goal.bounds-s-at
bounds-s-at c =
    let fits : (c.args.at + 33 ≤ length c.args.s.now) =
    let a = c.args in
    leb-true (a.at + 33) (length a.s.now) (sym c.has_room.ensures ∙ c.if-has_room.true) in
    omega (arith, fits)

pub overflow_cast-result : goal.overflow_cast-result
overflow_cast-result c = omega (arith, c.shared_slice_known-then-has_room-1.given c.args.at)

pub overflow_add-at : goal.overflow_add-at
overflow_add-at c =
    let fits : (c.args.at + 33 ≤ length c.args.s.now) =
    let a = c.args in
    leb-true (a.at + 33) (length a.s.now) (sym c.has_room.ensures ∙ c.if-has_room.true) in
    omega (arith, fits)

pub overflow_add-at-then-has_room : goal.overflow_add-at-then-has_room
overflow_add-at-then-has_room c =
    let fits : (c.args.at + 33 ≤ length c.args.s.now) =
    let a = c.args in
    leb-true (a.at + 33) (length a.s.now) (sym c.has_room.ensures ∙ c.if-has_room.true) in
    omega (arith, fits)

pub overflow_add-at-then-has_room-2 : goal.overflow_add-at-then-has_room-2
overflow_add-at-then-has_room-2 c =
    let fits : (c.args.at + 33 ≤ length c.args.s.now) =
    let a = c.args in
    leb-true (a.at + 33) (length a.s.now) (sym c.has_room.ensures ∙ c.if-has_room.true) in
    omega (arith, fits)

pub overflow_add-at-then-has_room-3 : goal.overflow_add-at-then-has_room-3
overflow_add-at-then-has_room-3 c =
    let fits : (c.args.at + 33 ≤ length c.args.s.now) =
    let a = c.args in
    leb-true (a.at + 33) (length a.s.now) (sym c.has_room.ensures ∙ c.if-has_room.true) in
    omega (arith, fits)

pub returns-then-has_room : goal.returns-then-has_room
returns-then-has_room c =
    let a = c.args in
    matter-whole a.s.now a.at _ (sym c.has_room.ensures ∙ c.if-has_room.true) (rw (c.read_u64-then-has_room-3.ensures, c.read_u64-then-has_room-2.ensures, c.read_u64-then-has_room.ensures, c.read_u64.ensures))

pub returns : goal.returns
returns c =
    let a = c.args in
    c.none.ensures ∙ matter-none a.s.now a.at (sym c.has_room.ensures ∙ c.if-has_room.false)
