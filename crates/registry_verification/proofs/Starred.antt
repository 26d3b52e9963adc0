-- Every starred case is what the rules say (docs/RULES.md, "Starred cases").
use mathlib.Core.Path.{◌≡◌, refl, sym}
use mathlib.Core.Logic.{◌≢◌}
use mathlib.Core.Bool.{Bool, true, false}
use Rattle.cesr_sn.specs.Numbers.{value, sn_of}
use Rattle.cesr.specs.Primitives.{eq_prefix}
use Rattle.cesr.specs.declared.BasicPrefix.{BasicPrefix}
use Rattle.cesr.proofs.Matters.{eq-prefix, prefix-eq}
use Rattle.events.specs.Members.{has}
use Rattle.events_toad.specs.Toads.{ceil, strong_majority, least_of, ample_of, exact_ok, exact_of}
use Rattle.registry_disposition.specs.Dispositions.{out_of_order}
use Rattle.registry_members.specs.Updated.{survivors, updated_members}
use Rattle.registry_verification.specs.Starred.{All, Says, starred}
use Rattle.registry_verification.specs.Starred.Case.{one_cut_one_added}

-- prefixes that differ are not taken for equal
differ : (a b : BasicPrefix) → a ≢ b → eq_prefix a b ≡ false
differ a b h = go (eq_prefix a b) refl
  where
    go : (t : Bool) → eq_prefix a b ≡ t → t ≡ false
    go true e = absurd (h (prefix-eq a b e))
    go false e = refl

cut-and-added : Says one_cut_one_added
unfolding Says updated_members survivors has
cut-and-added a b c d h = rw (differ b a (λ e. h.0.0 (sym e)), eq-prefix b, differ b c h.1.0.0)

-- one proof for each case, in the list's order
pub starred-hold : All Says starred
unfolding Says exact_of exact_ok ample_of least_of strong_majority ceil out_of_order sn_of value
starred-hold = (refl, (refl, (refl, (refl, (refl, (refl, (refl, (refl, (refl, (refl, (refl, (cut-and-added, tt))))))))))))
