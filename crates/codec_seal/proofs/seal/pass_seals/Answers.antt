use Prim.Native.Nat.{ℕ}
use mathlib.Core.Path.{refl, ap, ◌∙◌}
use native.Mathlib.Omega.{arith}
use borrow.Author.Rules.{rules}
use Rattle.codec.specs.Readers.{times, section}
use Rattle.codec.specs.Events.{read_seal}
use Rattle.codec.proofs.Loops.{times-passed}
use Rattle.codec_seal.proofs.seal.pass_seals.Goals as goal

pub loop-i-init : goal.loop-i-init
unfolding times
loop-i-init c = (search rules, refl)

pub loop-i-preserved : goal.loop-i-preserved
loop-i-preserved c =
    (search rules, times-passed read_seal _ _ _ _ _ c.loop-i.invariant.1 c.pass_seal-next.ensures)

pub returns : goal.returns
unfolding section
returns c =
    let l = c.loop-i in
    let a = c.args in
    rw (← c.count_up_to-seals.ensures)
    (l.invariant.1 ∙ ap (λ (k : ℕ). (times k read_seal a.s.now c.count_up_to-seals.result.next).next) (omega arith))
