use mathlib.Core.Path.{sym, ◌∙◌}
use lib.ListN.{length}
use Prim.Native.Nat.{◌+◌}
use borrow.Author.Tests.{leb-true}
use Rattle.laws.proofs.Room.{stored, refused}
use Rattle.cesr.specs.Primitives.{matter_bytes}
use Rattle.cesr.proofs.Matters.{length-matter}
use Rattle.cesr_write.proofs.Stored.{words-put}
use Rattle.cesr_write.proofs.matter.write_matter.Goals as goal

pub returns-then-not-has_room : goal.returns-then-not-has_room
returns-then-not-has_room c =
    let a = c.args in
    refused a.out.now a.at 33 (matter_bytes a.m) (length-matter a.m) (sym c.if-not-has_room.ensures)

pub returns : goal.returns
unfolding matter_bytes
returns c =
    let a = c.args in
    let room = sym c.if-not-has_room.ensures in
    let words = c.write_u64-4.ensures.1 ∙ rw (c.write_u64-3.ensures.1, c.write_u64-2.ensures.1, c.write_u64.ensures.1) (words-put a.out.now a.at _ a.m.w0 a.m.w1 a.m.w2 a.m.w3 (leb-true (a.at + 33) (length a.out.now) room)) in
    stored a.out.now a.at 33 (matter_bytes a.m) _ (length-matter a.m) room words
