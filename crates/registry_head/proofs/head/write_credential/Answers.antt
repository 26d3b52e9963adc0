use Prim.Native.Nat.{◌+◌}
use mathlib.Core.Path.{sym, ◌∙◌}
use borrow.Author.Tests.{leb-true}
use lib.ListN.{length}
use Rattle.laws.proofs.Room.{stored, refused}
use Rattle.registry_head.specs.HeadBytes.{head_bytes}
use Rattle.registry_head.proofs.HeadWrites.{length-head, head-sets}
use Rattle.registry_head.proofs.head.write_credential.Goals as goal

pub returns-then-not-has_room : goal.returns-then-not-has_room
returns-then-not-has_room c =
    let a = c.args in
    let h = a.head.now in
    refused a.out.now a.at 115 (head_bytes h.first h.second h.sn h.last) (length-head h.first h.second h.sn h.last) (sym c.if-not-has_room.ensures)

pub returns : goal.returns
returns c =
    let a = c.args in
    let h = a.head.now in
    let room = sym c.if-not-has_room.ensures in
    let parts = c.write_matter-3.ensures.1
    ∙ rw (c.write.ensures.1, c.write_matter-2.ensures.1, c.write_matter.ensures.1) (head-sets a.out.now a.at h.first h.second h.sn h.last (leb-true (a.at + 115) (length a.out.now) room)) in
    stored a.out.now a.at 115 (head_bytes h.first h.second h.sn h.last) _ (length-head h.first h.second h.sn h.last) room parts
