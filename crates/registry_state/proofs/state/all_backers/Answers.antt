use mathlib.Core.Path.{◌≡◌, sym, ap, ◌∙◌}
use native.Mathlib.Omega.{arith}
use borrow.Author.Count.{below_more}
use lib.ListN.{length, get_or}
use Rattle.laws.proofs.Views.{length-mapped}
use Rattle.events.specs.Members.{view, no_prefix}
use Rattle.events.proofs.MemberLaws.{view-at}
use Rattle.registry_state.specs.States.{is_backer}
use Rattle.registry_state.proofs.StateLoops.{all_pass, all-fail}
use Rattle.registry_state.proofs.state.all_backers.Goals as goal

pub loop-i-init : goal.loop-i-init
loop-i-init c = λ k h. absurd (omega arith)

pub offset_bounds-backers-i : goal.offset_bounds-backers-i
offset_bounds-backers-i c = omega (arith, c.size-i-end.ensures)

pub bounds-backers-i : goal.bounds-backers-i
bounds-backers-i c = omega (arith, c.size-i-end.ensures)

pub returns-then-not-is_basic : goal.returns-then-not-is_basic
returns-then-not-is_basic c =
    let m = c.args.backers in
    let full : (length m.items ≡ 16) = search length-mapped in
    let i = c.loop-i.i in
    let here : is_backer (get_or m.items i no_prefix) ≡ is_backer (get_or (view m) i no_prefix) = ap is_backer (view-at m full i (omega (arith, c.size-i-end.ensures))) in
    sym (all-fail is_backer no_prefix (view m) i (omega (arith, c.size-i-end.ensures)) (sym here ∙ sym c.if-not-is_basic.ensures))

pub loop-i-preserved : goal.loop-i-preserved
loop-i-preserved c =
    let m = c.args.backers in
    let full : (length m.items ≡ 16) = search length-mapped in
    let i = c.loop-i.i in
    let here : is_backer (get_or m.items i no_prefix) ≡ is_backer (get_or (view m) i no_prefix) = ap is_backer (view-at m full i (omega (arith, c.size-i-end.ensures))) in
    below_more _ _ c.loop-i.invariant (sym here ∙ sym c.if-not-is_basic.ensures)

pub returns : goal.returns
returns c =
    sym (all_pass is_backer no_prefix (view c.args.backers) (λ k h. c.loop-i.invariant k (omega (arith, c.size-i-end.ensures))))
