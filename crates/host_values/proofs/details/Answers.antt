use mathlib.Core.Path.{◌∙◌}
use Rattle.host_values.proofs.DetailLaws.{none-otherwise}
use Rattle.host_values.proofs.details.Goals as goal

pub returns-in-OutOfOrder : goal.returns-in-OutOfOrder
returns-in-OutOfOrder c = rw c.in-OutOfOrder.is

pub returns-in-UnresolvedAnchor : goal.returns-in-UnresolvedAnchor
returns-in-UnresolvedAnchor c = rw c.in-UnresolvedAnchor.is

pub returns-in-BackerSet : goal.returns-in-BackerSet
returns-in-BackerSet c = rw c.in-BackerSet.is (c.two.ensures ∙ rw c.rule_number.ensures)

pub returns-in-MissingBackerReceipts : goal.returns-in-MissingBackerReceipts
returns-in-MissingBackerReceipts c = rw c.in-MissingBackerReceipts.is c.two-in-MissingBackerReceipts.ensures

pub returns-in_default : goal.returns-in_default
returns-in_default c =
    let n = c.in_default in
    none-otherwise c.args.r n.not-OutOfOrder n.not-UnresolvedAnchor n.not-BackerSet n.not-MissingBackerReceipts
