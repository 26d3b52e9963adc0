use mathlib.Core.Path.{sym, ◌∙◌}
use native.Mathlib.Omega.{arith}
use borrow.Author.Count.{below_more}
use lib.ListN.{take}
use Rattle.cesr.specs.Primitives.{eq_matter}
use Rattle.events.specs.Members.{at}
use Rattle.ledger_registry_rules.proofs.InOrder.{has-any, unlettered, repeats, backers-pass}
use Rattle.ledger_registry_rules.proofs.rules.backers_sound.Goals as goal
use Rattle.ledger_registry_rules.proofs.rules.backers_sound.Goals.{then-not-is_basic-via-then-not-is_basic, then-not-is_basic-via-else-not-is_basic+then-contains}

pub returns-then-not-is_basic : goal.returns-then-not-is_basic
unfolding eq_matter
returns-then-not-is_basic c =
    let l = c.args.backers.now in
    let i = c.loop-i.i in
    elim c.then-not-is_basic.branch [
      | then-not-is_basic-via-then-not-is_basic w ↦ unlettered l i c.loop-i-test.true (sym c.is_basic.ensures ∙ w.if-not-is_basic.true)
      | then-not-is_basic-via-else-not-is_basic+then-contains w ↦ repeats l i c.loop-i-test.true (sym (has-any (at l i) (take i l)) ∙ (sym w.contains.ensures.value ∙ w.if-contains.true))
    ]

pub loop-i-preserved : goal.loop-i-preserved
unfolding eq_matter
loop-i-preserved c =
    let l = c.args.backers.now in
    let i = c.loop-i.i in
    let known = c.loop-i.invariant in
    record {
      once = below_more _ _ known.once (sym (has-any (at l i) (take i l)) ∙ (sym c.contains.ensures.value ∙ c.if-contains.false));
      lettered = below_more _ _ known.lettered (sym c.is_basic.ensures ∙ c.if-not-is_basic.false);
    }

pub returns : goal.returns
returns c =
    let known = c.loop-i.invariant in
    backers-pass c.args.backers.now (λ k h. known.lettered k (omega arith)) (λ k h. known.once k (omega arith))
