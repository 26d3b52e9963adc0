use mathlib.Core.Path.{◌∙◌}
use native.Mathlib.Omega.{arith}
use Rattle.cesr_sn.proofs.Order.{same_value}
use Rattle.codec_cursor.specs.Readers.{starting, counted}
use Rattle.registry_seals.specs.SealSections.{anchor_seals}
use Rattle.registry_seals.proofs.InPlace.{in_place}
use Rattle.registry_seals.proofs.seals.anchor_seals.Goals as goal

pub returns : goal.returns
unfolding anchor_seals
returns c =
    let a = c.args in
    let b = a.section.now in
    rw (
      c.same_at-2.ensures,
      c.eq.ensures ∙ same_value c.read-t.result c.args.s (omega arith) (omega arith),
      c.same_at.ensures,
      c.read-t.ensures,
      c.pass_said-next.ensures,
      c.advance-digest.ensures,
      c.pass_identifier-number.ensures,
      ← in_place b (counted 1 b starting) a.i a.s a.d,
      ← c.start.ensures,
      ← c.count.ensures,
      ← c.byte-kind.ensures,
    )
