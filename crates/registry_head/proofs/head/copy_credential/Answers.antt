use mathlib.Core.Path.{sym, ◌∙◌}
use borrow.Author.Tests.{leb-true}
use lib.ListN.{length}
use Rattle.laws.proofs.Room.{stored, refused}
use Rattle.cesr.specs.Primitives.{read_matter}
use Rattle.registry_head.specs.HeadBytes.{head_bytes}
use Rattle.registry_head.proofs.HeadWrites.{length-head, head-sets}
use Rattle.registry_head.proofs.head.copy_credential.Goals as goal

pub returns-then-not-has_room : goal.returns-then-not-has_room
returns-then-not-has_room c =
    let z = c.args in
    let a = read_matter z.held.now z.head.now.first in
    let b = read_matter z.held.now z.head.now.second in
    let d = read_matter z.s.now z.head.now.last in
    refused z.out.now 0 115 (head_bytes a b z.head.now.sn d) (length-head a b z.head.now.sn d) (sym c.if-not-has_room.ensures)

pub returns : goal.returns
returns c =
    let z = c.args in
    let a = read_matter z.held.now z.head.now.first in
    let b = read_matter z.held.now z.head.now.second in
    let d = read_matter z.s.now z.head.now.last in
    let room = sym c.if-not-has_room.ensures in
    let parts = c.copy_matter-3.ensures.1
    ∙ rw (c.write.ensures.1, c.copy_matter-2.ensures.1, c.copy_matter.ensures.1) (head-sets z.out.now 0 a b z.head.now.sn d (leb-true 115 (length z.out.now) room)) in
    stored z.out.now 0 115 (head_bytes a b z.head.now.sn d) _ (length-head a b z.head.now.sn d) room parts
