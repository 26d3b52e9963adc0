use mathlib.Core.Path.{sym, ◌∙◌}
use native.Mathlib.Omega.{arith}
use Rattle.cesr_sn.proofs.Order.{less_value}
use Rattle.registry_disposition.specs.Dispositions.{out_of_order}
use Rattle.registry_disposition.proofs.out_of_order.Goals as goal

pub returns-then-lt : goal.returns-then-lt
unfolding out_of_order
returns-then-lt c = rw (sym (less_value c.args.expected c.args.actual (omega arith) (omega arith)) ∙ sym c.lt.ensures ∙ c.if-lt.true)

pub returns : goal.returns
unfolding out_of_order
returns c = rw (sym (less_value c.args.expected c.args.actual (omega arith) (omega arith)) ∙ sym c.lt.ensures ∙ c.if-lt.false)
