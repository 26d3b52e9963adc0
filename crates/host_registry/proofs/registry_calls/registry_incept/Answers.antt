use mathlib.Core.Path.{refl, ap, ◌∙◌}
use Rattle.std.proofs.Common.{Err}
use Rattle.host_next.specs.ByteFolds.{Folded, call_of}
use Rattle.host_next.proofs.Calls.{refused}
use Rattle.host_registry.proofs.InceptionCalls.{incepted-next, incept-refused}
use Rattle.host_registry.proofs.registry_calls.registry_incept.Goals as goal

pub returns-in-Ok : goal.returns-in-Ok
returns-in-Ok c =
    let a = c.args in
    c.leave_next.ensures
    ∙ ap (λ (f : Folded). call_of f a.next.now) (incepted-next a.attempt.now c.in-Ok.o c.in-Ok.ensures _ (c.made_of.ensures a.attempt.now))

pub returns-in-Err : goal.returns-in-Err
returns-in-Err c =
    refused _ c.args.next.now (Err c.in-Err.refusal) _ _ (incept-refused c.args.attempt.now _ c.in-Err.ensures) refl c.report_answer.ensures
