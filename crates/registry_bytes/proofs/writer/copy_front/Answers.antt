use native.Mathlib.Omega.{arith}
use borrow.Author.Rules.{rules}
use Rattle.cesr.specs.Primitives.{read_matter}
use Rattle.registry_bytes.proofs.StateWrites.{few-configs, front-stored, front-refused}
use Rattle.registry_bytes.proofs.writer.copy_front.Goals as goal

pub overflow_add-size : goal.overflow_add-size
overflow_add-size c = omega (arith, few-configs c.args.terms.configs (search rules))

pub returns-then-not-has_room : goal.returns-then-not-has_room
returns-then-not-has_room c =
    let a = c.args in
    let h = a.head.now in
    front-refused a.out.now 0 (read_matter a.held.now h.first) _ _ _ _ _ c.size.result c.size.ensures c.if-not-has_room.ensures

pub returns : goal.returns
returns c =
    let a = c.args in
    let h = a.head.now in
    front-stored a.out.now 0 (read_matter a.held.now h.first) _ _ _ _ _ c.size.result _ _ c.size.ensures c.if-not-has_room.ensures c.copy_credential.ensures.1 c.write.ensures
