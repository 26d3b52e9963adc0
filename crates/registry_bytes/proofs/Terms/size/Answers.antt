use native.Mathlib.Omega.{arith}
use borrow.Author.Rules.{rules}
use Rattle.registry_bytes.proofs.StateWrites.{few-configs}
use Rattle.registry_bytes.proofs.Terms.size.Goals as goal

pub overflow_add-result : goal.overflow_add-result
overflow_add-result c = omega (arith, few-configs c.args.self.configs (search rules))
