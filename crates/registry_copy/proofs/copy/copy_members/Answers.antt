use mathlib.Core.Path.{◌≡◌, refl, ◌∙◌}
use native.Mathlib.Omega.{arith}
use Rattle.codec.specs.Layout.{joined}
use Rattle.codec.proofs.Loops.{times-passed}
use Rattle.codec_cursor.specs.Readers.{read_prefix, times}
use Rattle.registry_rotation.proofs.Listed.{all_listed}
use Rattle.registry_copy.proofs.Copies.{member-next, members-fit}
use Rattle.registry_copy.proofs.copy.copy_members.Goals as goal

pub loop-i-init : goal.loop-i-init
unfolding times joined
loop-i-init c = (refl, refl, refl)

pub overflow_add-at : goal.overflow_add-at
overflow_add-at c =
    let a = c.args in
    omega (arith, members-fit a.s.now a.list a.at _ a.out.now c.at_most_16-n.ensures c.requires)

pub loop-i-preserved : goal.loop-i-preserved
loop-i-preserved c =
    let l = c.loop-i in
    let a = c.args in
    let fits = members-fit a.s.now a.list a.at _ a.out.now c.at_most_16-n.ensures c.requires in (
      c.copy_matter.auto.out ∙ l.invariant.0,
      times-passed read_prefix _ _ _ _ _ l.invariant.1 c.pass_prefix-c.ensures,
      c.copy_matter.ensures.1 ∙ rw l.invariant.2 (member-next a.s.now a.list.start a.out.now a.at l.i l.c l.invariant.1 (omega (arith, fits))),
    )

pub returns : goal.returns
returns c =
    let l = c.loop-i in
    let a = c.args in
    let e : l.i ≡ c.at_most_16-n.result = omega arith in
    l.invariant.2 ∙ rw (all_listed a.s.now a.list _ c.at_most_16-n.ensures, e)
