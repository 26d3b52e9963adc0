use Rattle.std.proofs.Common.{ℕ, ◌∙◌, ap, refl, arith}
use Rattle.events.specs.Members.{has}
use Rattle.codec.specs.Readers.{read_prefix, times}
use Rattle.codec.proofs.Loops.{times-passed}
use Rattle.registry_rotation.proofs.Listed.{has_more}
use Rattle.registry_rotation.proofs.deltas.found_in.Goals as goal

pub loop-init : goal.loop-init
unfolding times has
loop-init c = record { next = refl; found = refl }

pub loop-preserved : goal.loop-preserved
loop-preserved c =
    let l = c.loop in
    record {
      next = times-passed read_prefix _ _ _ _ _ l.invariant.next c.pass_prefix-c.ensures;
      found = has_more _ _ _ l.counter _ l.found _ l.invariant.next l.invariant.found c.same_at-found.ensures;
    }

pub returns : goal.returns
returns c =
    let l = c.loop in
    l.invariant.found ∙ ap (λ (k : ℕ). has c.args.x (times k read_prefix c.args.s.now c.args.start).value) (omega arith)
