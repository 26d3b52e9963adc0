use mathlib.Core.Path.{refl}
use Rattle.registry_wire.specs.Attempts.{part_of}
use Rattle.registry_authentication.proofs.AnchorUse.{none-chosen}
use Rattle.registry_authentication.proofs.issuer.message_anchored.Goals as goal

pub returns : goal.returns
returns c =
    let s = c.args.s.now in
    rw (
      c.verify_kel_anchor.ensures,
      c.stated.ensures,
      c.read-said.ensures,
      c.bytes-2.ensures,
      c.bytes.ensures,
      none-chosen s _ (part_of s c.args.a.now.anchor) refl,
    )
