-- The rules on the backers and the toad of an authority, and its receipts (docs/RULES.md, "Receipts").
use Rattle.std.specs.Prelude.{ℕ, ◌≤◌, ◌≡◌, List, [], ◌∷◌, Bool, cond, leb, length}
use Rattle.cesr.specs.declared.BasicPrefix.{BasicPrefix}
use Rattle.events.specs.Members.{Membership, check_members}
use Rattle.events_toad.specs.Toads.{exact_ok}
use Rattle.registry_verification.specs.declared.Signature.{Signature}
use Rattle.registry_error.specs.declared.RegistryRejection.TheVariants.{BackerThreshold, MissingBackerReceipts}
use Rattle.registry_error.specs.Errors.{Answer}
use Rattle.std.specs.Prelude.{Ok, Option, None, Some}
use Rattle.registry_verification.specs.SignatureSections.{signatures_in}
use Rattle.registry_verification.specs.declared.Counted.{Counted}
use Rattle.registry_answer.specs.Answers.{accept_if, backer_set, first_of}
use Rattle.registry_verification.specs.Receipts.{receipts}

-- 27: a toad is met by as many valid receipts, so a toad of 0 by none
unfoldable pub enough_receipts : ℕ → ℕ → List Signature → Answer
enough_receipts toad backers l = accept_if (leb toad (receipts backers l)) (MissingBackerReceipts (receipts backers l) toad)

-- 24, 26, 27 of the authority's toad and backers
unfoldable pub backed_by : ℕ → List BasicPrefix → List Signature → Answer
backed_by toad backers l =
    first_of
    (backer_set (check_members backers)
    ∷ accept_if (exact_ok toad (length backers)) BackerThreshold
    ∷ enough_receipts toad (length backers) l
    ∷ [])

-- what a list comes to: the first repeat in it, and its length, which is at most 16
pub record Backs (repeat : Membership) (n : ℕ) (backers : List BasicPrefix) : Type 0 where
  pub members : repeat ≡ check_members backers
  pub count : n ≡ length backers
  pub few : length backers ≤ 16

-- 24, 26, 27 of the registry's own toad and backers, where they are asked about
unfoldable pub own_where : Bool → ℕ → List BasicPrefix → List Signature → Answer
own_where own toad backers l = cond own (backed_by toad backers l) (Ok tt)

-- the same, with the place of the signatures that they are asked about
abbrev pub own_among : ℕ → List BasicPrefix → List ℕ → Option Counted → Answer
own_among toad backers s None = Ok tt
own_among toad backers s (Some c) = backed_by toad backers (signatures_in s c)
