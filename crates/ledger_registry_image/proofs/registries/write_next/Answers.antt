use mathlib.Core.Path.{refl, ap, ◌∙◌}
use Prim.Native.Nat.{ℕ, ◌+◌}
use Rattle.laws.proofs.Room.{put-sets}
use Rattle.ledger_registry_image.proofs.registries.write_next.Goals as goal

pub returns : goal.returns
returns c =
    (ap (λ (n : ℕ). c.args.at + n) c.size.ensures, c.write.ensures.1 ∙ put-sets _ _ _ _ refl c.requires)
