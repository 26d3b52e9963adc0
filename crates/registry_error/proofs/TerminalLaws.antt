-- A refusal that is terminal, which the code tells by its being none of those that are contested or await evidence.
--     terminal-otherwise   every other refusal is terminal
use Prim.Native.Nat.{ℕ}
use mathlib.Core.Path.{◌≡◌, refl}
use Rattle.registry_disposition.specs.declared.Sn.{Sn}
use Rattle.registry_disposition.specs.declared.Disposition.TheVariants.{Terminal}
use Rattle.registry_error.specs.declared.RegistryRejection.{RegistryRejection}
use Rattle.registry_error.specs.declared.RegistryRejection.TheVariants as R
use Rattle.registry_error.specs.Errors.{disposition_of}

pub terminal-otherwise :
    (r : RegistryRejection) →
    (r ≡ R.MissingRegistry → ⊥) →
    (r ≡ R.DuplicateInception → ⊥) →
    (r ≡ R.AlreadyIssued → ⊥) →
    (r ≡ R.MissingCredentialState → ⊥) →
    ((x y : Sn) → r ≡ R.OutOfOrder x y → ⊥) →
    (r ≡ R.MissingIssuer → ⊥) →
    (r ≡ R.MissingAnchor → ⊥) →
    ((x : Sn) → r ≡ R.UnresolvedAnchor x → ⊥) →
    ((x y : ℕ) → r ≡ R.MissingBackerReceipts x y → ⊥) →
    Terminal ≡ disposition_of r
terminal-otherwise R.MissingRegistry a b c d e f g h i = absurd (a refl)
terminal-otherwise R.DuplicateInception a b c d e f g h i = absurd (b refl)
terminal-otherwise R.AlreadyIssued a b c d e f g h i = absurd (c refl)
terminal-otherwise R.MissingCredentialState a b c d e f g h i = absurd (d refl)
terminal-otherwise (R.OutOfOrder x y) a b c d e f g h i = absurd (e x y refl)
terminal-otherwise R.MissingIssuer a b c d e f g h i = absurd (f refl)
terminal-otherwise R.MissingAnchor a b c d e f g h i = absurd (g refl)
terminal-otherwise (R.UnresolvedAnchor x) a b c d e f g h i = absurd (h x refl)
terminal-otherwise (R.MissingBackerReceipts x y) a b c d e f g h i = absurd (i x y refl)
terminal-otherwise _ a b c d e f g h i = refl
