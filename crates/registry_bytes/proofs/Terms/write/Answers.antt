use mathlib.Core.Path.{◌∙◌}
use native.Mathlib.Omega.{arith}
use borrow.Author.Rules.{rules}
use Rattle.registry_bytes.proofs.StateWrites.{few-configs, terms-stored}
use Rattle.registry_bytes.proofs.Terms.write.Goals as goal

pub overflow_cast-out : goal.overflow_cast-out
overflow_cast-out c = omega (arith, few-configs c.args.self.configs (search rules))

pub shared_ref_as_front-copy_from_slice : goal.shared_ref_as_front-copy_from_slice
shared_ref_as_front-copy_from_slice c = omega (arith, few-configs c.args.self.configs (search rules))

pub returns : goal.returns
returns c =
    let a = c.args in
    terms-stored a.out.now _ _ a.at _ a.self.toad.0 a.self.configs c.size-n.ensures (omega (arith, c.requires, c.size-n.ensures)) (c.write_u32.ensures.1 ∙ rw c.value.ensures) c.copy_from_slice.ensures.after
