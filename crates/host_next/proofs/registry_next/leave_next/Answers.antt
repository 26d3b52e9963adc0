use mathlib.Core.Path.{◌∙◌}
use Rattle.registry_room.specs.NextStates.{next_bytes}
use Rattle.host_next.proofs.Calls.{next-left}
use Rattle.host_next.proofs.registry_next.leave_next.Goals as goal

pub returns-in-Ok : goal.returns-in-Ok
returns-in-Ok c =
    let w = c.write_next-written.ensures in
    let a = c.args in
    let size = rw c.in-Ok.is at w.size in
    next-left (next_bytes a.held.now a.s.now a.p) a.next.now _ _ _ _ _ _ (c.is_ok.ensures.value ∙ w.stored.0) c.accept_if-answer.ensures size c.report_sized.ensures w.stored.1

pub returns-in-Err : goal.returns-in-Err
returns-in-Err c =
    let w = c.write_next-written.ensures in
    let a = c.args in
    let size = rw c.in-Err.is at w.size in
    next-left (next_bytes a.held.now a.s.now a.p) a.next.now _ _ _ _ _ _ (c.is_ok.ensures.value ∙ w.stored.0) c.accept_if-answer.ensures size c.report_sized-in-Err.ensures w.stored.1
