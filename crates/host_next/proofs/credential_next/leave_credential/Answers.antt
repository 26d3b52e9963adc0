use mathlib.Core.Path.{sym, ap, ◌∙◌}
use Rattle.laws.specs.Room.{room}
use Rattle.cesr.specs.Primitives.{read_matter}
use Rattle.registry_head.specs.HeadBytes.{head_bytes}
use Rattle.registry_head.proofs.HeadWrites.{length-head}
use Rattle.host_next.proofs.Calls.{next-left}
use Rattle.host_next.proofs.credential_next.leave_credential.Goals as goal

pub returns : goal.returns
returns c =
    let z = c.args in
    let h = z.head.now in
    let a = read_matter z.held.now h.first in
    let b = read_matter z.held.now h.second in
    let d = read_matter z.s.now h.last in
    let long = length-head a b h.sn d in
    next-left (head_bytes a b h.sn d) z.next.now _ _ _ _ _ _ (c.copy_credential-ok.ensures.0 ∙ ap (room z.next.now 0) (sym long)) c.accept_if-answer.ensures (sym long) c.report_sized.ensures c.copy_credential-ok.ensures.1
