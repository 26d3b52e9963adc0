use borrow.Author.Rules.{rules}
use Prim.Native.Nat.{ℕ}
use mathlib.Core.Path.{refl, ap, ◌∙◌}
use native.Mathlib.Omega.{arith}
use Rattle.events_tel.specs.Readers.{read_prefix, times}
use Rattle.codec.proofs.Loops.{times-passed, listed-read}
use Rattle.codec.proofs.section.pass_prefixes.Goals as goal

pub loop-i-init : goal.loop-i-init
unfolding times
loop-i-init c = (search rules, refl)

pub loop-i-preserved : goal.loop-i-preserved
loop-i-preserved c =
    (search rules, times-passed read_prefix _ _ _ _ _ c.loop-i.invariant.1 c.pass_prefix-next.ensures)

pub returns : goal.returns
returns c =
    let l = c.loop-i in
    let n = c.count_up_to-listed in
    let a = c.args in
    listed-read _ _ _ _ n.ensures (l.invariant.1 ∙ ap (λ (k : ℕ). (times k read_prefix a.s.now n.result.next).next) (omega arith))
