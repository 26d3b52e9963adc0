use Prim.Native.Nat.{◌<◌}
use mathlib.Core.Path.{refl, ap, ◌∙◌}
use native.Mathlib.Omega.{arith}
use lib.ListN.{length}
use Rattle.codec_cursor.specs.Readers.{times}
use Rattle.ledger_image.specs.Images.{wide_count}
use Rattle.ledger_image_rows_check.specs.IdLists.{view_ids}
use Rattle.ledger_image_rows_check.proofs.IdViews.{pushed_room}
use Rattle.ledger_image_check.specs.Checks.{registries_pass}
use Rattle.ledger_image_check.proofs.Counts.{count-within}
use Rattle.ledger_image_check.proofs.RegistryChecks.{turn, section-fails, section-end}
use Rattle.ledger_image_check.proofs.registries.check_registries.Goals as goal

pub loop-i-init : goal.loop-i-init
unfolding times registries_pass
loop-i-init c = record { at = refl; ids = c.empty-ids.ensures; size = ap length c.empty-ids.ensures; pass = refl }

pub loop-i-preserved : goal.loop-i-preserved
loop-i-preserved c =
    let few : (c.loop-i.i < 16) =
    omega (arith, c.loop-i-test.true, count-within 16 _ _ _ c.read_count-section.ensures) in
    let l = c.loop-i in
    let g = c.read-g in
    let room : length (view_ids l.ids) < 16 = omega (arith, few, l.invariant.size) in
    turn _ _ _ _ _ l.invariant g.result.value g.result.next g.ensures.read g.ensures.well _ _ c.contains-known.ensures c.registry_sound.ensures c.if-not-g-registry_sound.false _ (c.push.ensures ∙ pushed_room _ _ room)

pub returns-then-not-g-registry_sound : goal.returns-then-not-g-registry_sound
returns-then-not-g-registry_sound c =
    let g = c.read-g in
    section-fails _ _ _ _ _ c.loop-i.invariant g.result.value g.result.next g.ensures.read g.ensures.well _ _ c.contains-known.ensures c.registry_sound.ensures c.if-not-g-registry_sound.true c.read_count-section.result (c.read_count-section.ensures ∙ ap (wide_count 16 _) c.start.ensures) refl c.loop-i-test.true

pub returns : goal.returns
returns c = section-end _ c.read_count-section.result (c.read_count-section.ensures ∙ ap (wide_count 16 _) c.start.ensures) _ (omega arith) _ _ c.loop-i.invariant
