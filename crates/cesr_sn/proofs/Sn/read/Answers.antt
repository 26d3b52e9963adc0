use mathlib.Core.Path.{sym, ◌∙◌}
use native.Mathlib.Omega.{arith}
use Prim.Native.Nat.{◌+◌, ◌<◌, ◌≤◌, ◌^◌}
use lib.ListN.{length}
use borrow.Author.Tests.{leb-true}
use Rattle.cesr_number.specs.Number.{number}
use Rattle.cesr_number.proofs.Number.{whole-number}
use Rattle.cesr_sn.proofs.Words.{words-read, words-none}
use Rattle.cesr_sn.proofs.Sn.read.Goals as goal

pub overflow_add-at : goal.overflow_add-at
overflow_add-at c =
    let fits : (c.args.at + 16 ≤ length c.args.s.now) =
    let a = c.args in
    leb-true (a.at + 16) (length a.s.now) (sym c.has_room.ensures ∙ c.if-has_room.true) in
    omega (arith, fits)

pub returns-then-has_room : goal.returns-then-has_room
returns-then-has_room c =
    let fits : (c.args.at + 16 ≤ length c.args.s.now) =
    let a = c.args in
    leb-true (a.at + 16) (length a.s.now) (sym c.has_room.ensures ∙ c.if-has_room.true) in
    let a = c.args in
    let e = c.read_u64.ensures ∙ whole-number a.s.now a.at 8 (omega (arith, fits)) in
    let f = c.read_u64-then-has_room.ensures ∙ whole-number a.s.now (a.at + 8) 8 (omega (arith, fits)) in
    let p : number a.s.now a.at 8 < 2 ^ 64 = omega (arith, e) in
    let q : number a.s.now (a.at + 8) 8 < 2 ^ 64 = omega (arith, f) in
    rw (f, e) (words-read a.s.now a.at p q (sym c.has_room.ensures ∙ c.if-has_room.true))

pub returns : goal.returns
returns c =
    let a = c.args in
    words-none a.s.now a.at (sym c.has_room.ensures ∙ c.if-has_room.false)
