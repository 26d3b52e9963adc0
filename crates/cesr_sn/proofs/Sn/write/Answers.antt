use mathlib.Core.Path.{sym, ◌∙◌}
use native.Mathlib.Omega.{arith}
use Prim.Native.Nat.{◌+◌, ◌≤◌}
use lib.ListN.{length}
use borrow.Author.Tests.{leb-true, not-true, not-false}
use Rattle.cesr_number.specs.Number.{digits}
use Rattle.cesr_number.proofs.Number.{length_digits}
use Rattle.cesr_number.proofs.Room.{true-room, refused, put-append}
use Rattle.cesr_sn.specs.Numbers.{value, sn_bytes}
use Rattle.cesr_sn.proofs.Words.{words-bytes}
use Rattle.cesr_sn.proofs.Sn.write.Goals as goal

pub returns-then-not-has_room : goal.returns-then-not-has_room
unfolding sn_bytes
returns-then-not-has_room c =
    let a = c.args in
    refused a.out.now a.at 16 (sn_bytes a.self) (length_digits 16 (value a.self)) (sym c.has_room.ensures ∙ not-true _ c.if-not-has_room.true-raw)

pub overflow_add-at : goal.overflow_add-at
overflow_add-at c =
    let fits : (c.args.at + 16 ≤ length c.args.out.now) =
    let a = c.args in
    leb-true (a.at + 16) (length a.out.now) (sym c.has_room.ensures ∙ not-false _ c.if-not-has_room.false-raw) in
    omega (arith, fits)

-- two words stored, one behind the other, are the number's 16 bytes
pub returns : goal.returns
returns c =
    let fits : (c.args.at + 16 ≤ length c.args.out.now) =
    let a = c.args in
    leb-true (a.at + 16) (length a.out.now) (sym c.has_room.ensures ∙ not-false _ c.if-not-has_room.false-raw) in
    let a = c.args in
    let n = a.self in
    let l = a.out.now in
    (sym (true-room l a.at 16 (fits)), c.write_u64-2.ensures.1 ∙ rw (c.write_u64.ensures.1, words-bytes n (omega (arith, c.before))) (put-append l a.at 8 8 (digits 8 n.hi) (digits 8 n.lo) (length_digits 8 n.hi) (length_digits 8 n.lo) (omega (arith, fits))))
