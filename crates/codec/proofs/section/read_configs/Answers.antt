use Prim.Native.Nat.{ℕ}
use mathlib.Core.Path.{ap, ◌∙◌}
use native.Mathlib.Omega.{arith}
use borrow.Author.Rules.{rules}
use Rattle.events_tel.specs.Configs.{pushed}
use Rattle.events_tel.specs.Readers.{times, section}
use Rattle.codec.specs.Events.{read_config, read_configs}
use Rattle.codec.proofs.Loops.{count-within, times-pushed, configs-room}
use Rattle.codec.proofs.section.read_configs.Goals as goal

pub loop-i-init : goal.loop-i-init
unfolding times
loop-i-init c = (search rules, rw c.empty-value.ensures)

pub loop-i-preserved : goal.loop-i-preserved
loop-i-preserved c =
    let w = count-within 8 _ _ _ c.count_up_to-n.ensures in (
      search rules,
      times-pushed read_config _ _ 8 pushed configs-room _ _ _ _ _ (omega (arith, w)) c.loop-i.invariant.1 c.read_config-b.ensures c.push.ensures.list,
    )

pub returns : goal.returns
unfolding read_configs section
returns c =
    let l = c.loop-i in
    let a = c.args in
    rw (← c.count_up_to-n.ensures)
    (l.invariant.1 ∙ ap (λ (k : ℕ). times k read_config a.s.now c.count_up_to-n.result.next) (omega arith))
