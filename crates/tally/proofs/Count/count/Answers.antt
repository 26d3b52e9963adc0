use Rattle.std.proofs.Common.{◌∙◌, sym, arith, rules}
use Rattle.tally.specs.Counts.{counted_of}
use Rattle.tally.proofs.EachPlus.{each_plus_step, each_plus_end}
use Rattle.tally.proofs.Count.count.Goals as goal

pub loop-i-preserved : goal.loop-i-preserved
loop-i-preserved g c = record {
  all = search rules;
  same_length = search rules;
  held = each_plus_step c.loop-i.self.held c.args.tests c.loop-i.i c.plus.result (omega arith) (omega arith) c.plus.ensures ∙ c.loop-i.invariant.held;
}

pub returns : goal.returns
unfolding counted_of
returns g c =
    let done = sym (each_plus_end c.loop-i.self.held _ c.loop-i.i (omega arith)) ∙ c.loop-i.invariant.held in
    rw (← c.loop-i.invariant.all, ← done)
