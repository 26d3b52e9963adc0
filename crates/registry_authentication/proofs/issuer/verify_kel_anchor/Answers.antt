use mathlib.Core.Path.{sym, ◌∙◌}
use native.Mathlib.Omega.{arith}
use Rattle.cesr_sn.proofs.Order.{same_value}
use Rattle.registry_seals.specs.SealSections.{chosen_seals}
use Rattle.registry_authentication.proofs.issuer.verify_kel_anchor.Goals as goal

pub returns : goal.returns
unfolding chosen_seals
returns c =
    rw (
      c.accept_if.ensures,
      c.anchor_seals-sealed.ensures,
      c.chosen_seals.ensures,
      c.same_at-2.ensures,
      c.eq.ensures ∙ same_value c.read-at.result c.in_ok-source.source.sn (omega arith) (omega arith),
      c.same_at.ensures,
      c.read-at.ensures,
      c.in_ok-source.ensures.ok_part,
      ← c.chosen-event.ensures,
      sym c.if-is_empty.ensures,
    )
