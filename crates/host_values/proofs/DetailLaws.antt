-- A refusal that comes without values, which the code tells by its being none of 16, 23, 24 and 27.
--     none-otherwise   every other refusal comes without
use Prim.Native.Nat.{ℕ}
use mathlib.Core.Path.{◌≡◌, refl}
use mathlib.Core.List.{[]}
use Rattle.cesr_sn.specs.declared.Sn.{Sn}
use Rattle.events.specs.declared.Rule.{Rule}
use Rattle.registry_error.specs.declared.RegistryRejection.{RegistryRejection}
use Rattle.registry_error.specs.declared.RegistryRejection.TheVariants as R
use Rattle.registry_error.specs.Errors.{details_of}

pub none-otherwise :
    (r : RegistryRejection) →
    ((x y : Sn) → r ≡ R.OutOfOrder x y → ⊥) →
    ((x : Sn) → r ≡ R.UnresolvedAnchor x → ⊥) →
    ((x : Rule) (y : ℕ) → r ≡ R.BackerSet x y → ⊥) →
    ((x y : ℕ) → r ≡ R.MissingBackerReceipts x y → ⊥) →
    [] ≡ details_of r
none-otherwise (R.OutOfOrder x y) a b c d = absurd (a x y refl)
none-otherwise (R.UnresolvedAnchor x) a b c d = absurd (b x refl)
none-otherwise (R.BackerSet x y) a b c d = absurd (c x y refl)
none-otherwise (R.MissingBackerReceipts x y) a b c d = absurd (d x y refl)
none-otherwise _ a b c d = refl
