use Prim.Native.Nat.{◌<◌}
use mathlib.Core.Path.{◌≡◌, refl, ◌∙◌}
use native.Mathlib.Omega.{arith}
use lib.ListN.{length, length-set}
use lib.Seq.{take_all}
use Rattle.laws.proofs.Views.{length-mapped}
use Rattle.events.specs.Members.{view}
use Rattle.events.proofs.MemberLaws.{view-at}
use Rattle.codec_laws.specs.Layout.{joined, section_bytes}
use Rattle.registry_bytes.proofs.StateWrites.{backer-step}
use Rattle.registry_bytes.proofs.writer.write_backers.Goals as goal

pub loop-i-init : goal.loop-i-init
unfolding joined
loop-i-init c = (refl, refl)

pub loop-i-preserved : goal.loop-i-preserved
loop-i-preserved c =
    let m = c.args.backers.now in
    let full : (length m.items ≡ 16) = search length-mapped in
    let l = c.loop-i in
    let h : l.i < length (view m) = omega (arith, c.size-n.ensures) in
    (c.write_matter.auto.out ∙ l.invariant.0, c.write_matter.ensures.1 ∙ rw (l.invariant.1, view-at m full l.i h) (backer-step _ (view m) l.i h (rw length-set c.requires)))

pub returns : goal.returns
unfolding section_bytes
returns c =
    let m = c.args.backers.now in
    c.loop-i.invariant.1 ∙ rw (c.size-n.ensures.value, take_all c.loop-i.i (view m) (omega (arith, c.size-n.ensures)))
