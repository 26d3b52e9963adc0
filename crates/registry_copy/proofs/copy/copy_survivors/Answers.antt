use Prim.Native.Nat.{◌+◌, ◌*◌, ◌≤◌}
use mathlib.Core.Path.{◌≡◌, refl, ◌∙◌}
use native.Mathlib.Omega.{arith}
use lib.ListN.{length}
use Rattle.codec.specs.Layout.{joined}
use Rattle.codec.proofs.Loops.{times-next}
use Rattle.codec_cursor.specs.Readers.{read_prefix, times}
use Rattle.registry_members.specs.Updated.{survivors}
use Rattle.registry_room.proofs.Counts.{count_kept, count_cut, survivors-cut, survivors-grow}
use Rattle.registry_copy.proofs.Copies.{survivor-next, listed-survivors, all-survivors}
use borrow.Author.Rules.{rules}
use Rattle.registry_copy.proofs.copy.copy_survivors.Goals as goal
use Rattle.registry_copy.proofs.copy.copy_survivors.Goals.{then-not-found_in, else-not-found_in}

pub loop-i-init : goal.loop-i-init
unfolding times survivors joined
loop-i-init c = (search rules, refl, refl, refl, refl)

pub loop-i-preserved : goal.loop-i-preserved
loop-i-preserved c =
    let a = c.args in
    let l = c.loop-i in
    let v = l.invariant in
    let start = a.current.start in
    let cuts = (times c.at_most_16-m.result read_prefix a.s.now a.cuts.start).value in
    let next = times-next read_prefix _ _ _ _ _ v.1 c.prefix-p.ensures in
    let grow = survivors-grow cuts a.held.now start c.at_most_16-n.result (l._i + 1) (omega arith) in
    let all = all-survivors a.held.now a.current a.s.now a.cuts _ _ c.at_most_16-n.ensures c.at_most_16-m.ensures in
    elim c.if-not-found_in.branch [
      | then-not-found_in w ↦
          let kept = w.if-not-found_in.true in
          let one = count_kept cuts a.held.now start l._i _ _ _ v.1 c.prefix-p.ensures c.found_in.ensures _ v.2 kept in
          let room : 1 + 33 * l.left + 33 ≤ length a.out.now = omega (arith, c.requires, all, one, grow) in
          rw (w.left-is, w.out-is) (
            search rules,
            next,
            one,
            w.copy_matter.auto.out ∙ v.3,
            w.copy_matter.ensures.1 ∙ rw v.4 (survivor-next cuts a.held.now start l._i _ _ _ v.1 c.prefix-p.ensures c.found_in.ensures a.out.now l.left v.2 kept room),
          )
      | else-not-found_in w ↦
          let cut = w.if-not-found_in.false in
          rw (w.left-is, w.out-is) (
            search rules,
            next,
            count_cut cuts a.held.now start l._i _ _ _ v.1 c.prefix-p.ensures c.found_in.ensures _ v.2 cut,
            v.3,
            rw (survivors-cut cuts a.held.now start l._i _ _ _ v.1 c.prefix-p.ensures c.found_in.ensures cut) v.4,
          )
    ]

pub returns : goal.returns
returns c =
    let a = c.args in
    let l = c.loop-i in
    let e : l._i ≡ c.at_most_16-n.result = omega arith in
    let all = listed-survivors a.held.now a.current a.s.now a.cuts _ _ c.at_most_16-n.ensures c.at_most_16-m.ensures in
    record { left = l.invariant.2 ∙ rw (all, e); stored = l.invariant.4 ∙ rw (all, e) }
