use Rattle.registry_bytes.proofs.StateWrites.{state-stored, state-refused}
use Rattle.registry_bytes.proofs.writer.write_registry.Goals as goal

pub returns-then-not-has_room : goal.returns-then-not-has_room
returns-then-not-has_room c =
    let a = c.args in
    state-refused a.out.now a.at _ _ _ _ _ _ _ c.state_size.result c.state_size.ensures c.if-not-has_room.ensures

pub returns : goal.returns
returns c =
    let a = c.args in
    state-stored a.out.now a.at _ _ _ _ _ _ _ c.state_size.result c.size.result _ _ _ c.state_size.ensures c.if-not-has_room.ensures c.size.ensures c.write_credential.ensures.1 c.write.ensures c.write_backers.ensures
