use Rattle.std.proofs.Common.{◌<◌, ◌∙◌, add-one, ap, arith, length, sym}
use Rattle.codec_cursor.specs.declared.Cursor.{Cursor}
use Rattle.registry_state.specs.States.{read_registry}
use Rattle.ledger_sections.proofs.SectionReads.{after_none, after_more, upto-none, upto-more}
use Rattle.ledger_registry_image.proofs.registries.store_registries.Goals as goal

pub loop-i-init : goal.loop-i-init
loop-i-init c = record { behind = sym (after_none c.args.image.now); stored = upto-none c.args.image.now c.args.registries.now }

-- one registry more is read at the cursor and stored
pub loop-i-preserved : goal.loop-i-preserved
loop-i-preserved c =
    let bs = c.args.image.now in
    let ys = c.args.registries.now in
    let l = c.loop-i in
    let r = c.read_next-r.ensures in
    let there : l.i < length ys = omega (arith, c.min-n.ensures) in
    record {
      behind = rw add-one (r.1 ∙ ap (λ (d : Cursor). (read_registry bs d).next) l.invariant.behind ∙ after_more bs l.i);
      stored = rw add-one (upto-more bs ys l.i l.registries c.read_next-r.result.value there l.invariant.stored (rw l.invariant.behind at r.0));
    }
