use borrow.Author.Rules.{rules}
use mathlib.Core.Path.{◌≡◌, refl, ◌∙◌}
use mathlib.Core.List.{[], ◌∷◌, ◌++◌}
use native.Mathlib.Omega.{arith}
use lib.ListN.{length-set}
use Rattle.events.specs.Members.{view}
use Rattle.events_tel.specs.Readers.{read_prefix, times}
use Rattle.codec.proofs.Loops.{times-pushed, view-put}
use Rattle.codec.proofs.section.read_members.Goals as goal

pub loop-i-init : goal.loop-i-init
unfolding times
loop-i-init c = (search rules, refl, refl)

pub loop-i-preserved : goal.loop-i-preserved
loop-i-preserved c =
    let l = c.loop-i in (
      search rules,
      length-set l.items l.i _ ∙ l.invariant.1,
      times-pushed read_prefix _ _ 16 (λ q x. q ++ (x ∷ [])) (λ q x b. refl) l.i _ _ _ _ (omega arith) l.invariant.2 c.prefix-p.ensures (view-put l.items l.i _ l.invariant.1 (omega arith)),
    )

pub returns : goal.returns
unfolding view
returns c =
    let l = c.loop-i in
    let a = c.args in
    let e : l.i ≡ a.count = omega arith in
    record { read = rw e at l.invariant.2; count = refl }
