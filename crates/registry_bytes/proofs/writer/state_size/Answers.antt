use native.Mathlib.Omega.{arith}
use borrow.Author.Rules.{rules}
use Rattle.registry_bytes.proofs.StateWrites.{few-configs}
use Rattle.registry_bytes.proofs.writer.state_size.Goals as goal

pub overflow_add-result : goal.overflow_add-result
overflow_add-result c = omega (arith, few-configs c.args.configs (search rules))

pub overflow_add-result-2 : goal.overflow_add-result-2
overflow_add-result-2 c = omega (arith, few-configs c.args.configs (search rules))
