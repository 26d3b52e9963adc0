use mathlib.Core.Path.{sym, ◌∙◌}
use native.Mathlib.Omega.{arith}
use Prim.Native.Nat.{◌+◌}
use lib.ListN.{length}
use borrow.Author.Tests.{leb-true}
use Rattle.cesr_number.specs.Room.{room}
use Rattle.cesr_number.proofs.Tests.{and_right}
use Rattle.codec_cursor.specs.Readers.{advanced}
use Rattle.codec_cursor.proofs.Cursor.advance.Goals as goal

pub overflow_add-result : goal.overflow_add-result
overflow_add-result c =
    let a = c.args in
    let h = and_right a.self.ok c.has_room.result c.if-self-has_room.true in
    omega (arith, leb-true (a.self.at + a.n) (length a.s.now) (sym c.has_room.ensures ∙ h))

pub returns-then-self-has_room : goal.returns-then-self-has_room
unfolding advanced room
returns-then-self-has_room c = rw (← c.has_room.ensures, c.if-self-has_room.true)

pub returns : goal.returns
unfolding advanced room
returns c = rw (← c.has_room.ensures, c.if-self-has_room.false)
