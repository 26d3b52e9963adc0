use mathlib.Core.Path.{◌≡◌, ◌∙◌}
use mathlib.Core.Option.{some}
use native.Mathlib.Omega.{arith}
use Rattle.laws.specs.Number.{Bytes}
use Rattle.events_tel.specs.TelEvents.{members_in}
use Rattle.registry_answer.proofs.AnswerLaws.{handed-on}
use Rattle.registry_management.specs.Managements.{view_management, view_management_read}
use Rattle.host_next.specs.ByteFolds.{registry_in}
use Rattle.host_next.proofs.StatesIn.{read_none, read_some, id-place, issuer-place}
use Rattle.host_registry.specs.RegistryByteFolds.{registry_ingest}
use Rattle.host_registry.proofs.RotationCalls.{rotated-next, rotation-refused}
use Rattle.host_registry.proofs.registry_calls.rotated.Goals as goal

pub returns-then-not-is_whole : goal.returns-then-not-is_whole
unfolding registry_ingest
returns-then-not-is_whole c =
    let s = c.args.state.now in
    rw (read_none s _ _ c.start.ensures (view_management_read s c.read_management-g.result) c.read_management-g.ensures c.is_whole.ensures c.if-not-is_whole.true)

pub returns-in_err-o : goal.returns-in_err-o
returns-in_err-o c =
    let s = c.args.state.now in
    let held = read_some s _ _ c.start.ensures (view_management_read s c.read_management-g.result) c.read_management-g.ensures c.is_whole.ensures c.if-not-is_whole.false in
    rw (handed-on _ _ c.from_residual.ensures.1) (rotation-refused s c.args.attempt.now _ held _ c.in_err-o.ensures)

pub returns : goal.returns
returns c =
    let s = c.args.state.now in
    let b : Bytes s = λ i. omega (arith, c.type_inv.state i) in
    let r = c.read_management-g.result in
    let g = view_management r.value (members_in s r.backers) in
    let held : registry_in s ≡ some g = read_some s _ _ c.start.ensures (view_management_read s r) c.read_management-g.ensures c.is_whole.ensures c.if-not-is_whole.false in
    rotated-next s c.args.attempt.now g held c.in_ok-o.o c.in_ok-o.ensures _ (c.rotated_of.ensures s c.args.attempt.now (id-place s g b held) (issuer-place s g b held))
