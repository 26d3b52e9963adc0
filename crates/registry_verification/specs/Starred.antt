-- The starred cases: what each of them says under the rules that the contracts cite (docs/RULES.md, "Starred cases").
use Rattle.std.specs.Prelude.{ℕ, ◌≡◌, ◌≢◌, List, [], ◌∷◌, Ok, Err}
use Rattle.cesr_sn.specs.Numbers.{sn_of}
use Rattle.cesr.specs.declared.BasicPrefix.{BasicPrefix}
use Rattle.events_toad.specs.Toads.{toad_of, exact_of, ample_of}
use Rattle.events_toad.specs.declared.ToadError.TheVariants.{OutOfRange}
use Rattle.registry_error.specs.Errors.{disposition_of}
use Rattle.registry_error.specs.declared.RegistryRejection.TheVariants.{OutOfOrder}
use Rattle.registry_disposition.specs.declared.Disposition.TheVariants.{Contested, Awaiting}
use Rattle.registry_disposition.specs.declared.EvidenceKind.TheVariants.{PriorEvents}
use Rattle.registry_members.specs.Updated.{updated_members}

-- a statement about every element of a list
abbrev pub All : {A : Type 0} → (A → Type 0) → List A → Type 0
All P [] = Unit
All P (x ∷ l) = P x × All P l

-- no two prefixes of a list are equal
abbrev pub Different : List BasicPrefix → Type 0
Different [] = Unit
Different (x ∷ l) = All (λ y. x ≢ y) l × Different l

pub data Case : Type 0 where
  exact_passes : (toad backers : ℕ) → Case
  exact_refused : (toad backers : ℕ) → Case
  ample_is : (backers toad : ℕ) → Case
  out_of_order_awaits : (expected actual : ℕ) → Case
  out_of_order_contested : (expected actual : ℕ) → Case
  one_cut_one_added : Case

-- what a case says; in the last, A, B, C and D are any four prefixes that differ
unfoldable pub Says : Case → Type 0
Says (exact_passes t n) = exact_of t n ≡ Ok (toad_of t)
Says (exact_refused t n) = exact_of t n ≡ Err (OutOfRange t n)
Says (ample_is n t) = ample_of n ≡ Ok (toad_of t)
Says (out_of_order_awaits e a) = disposition_of (OutOfOrder (sn_of e) (sn_of a)) ≡ Awaiting (PriorEvents (sn_of e))
Says (out_of_order_contested e a) = disposition_of (OutOfOrder (sn_of e) (sn_of a)) ≡ Contested
Says one_cut_one_added =
    (a b c d : BasicPrefix) → Different (a ∷ b ∷ c ∷ d ∷ []) → updated_members (a ∷ b ∷ c ∷ []) (b ∷ []) (d ∷ []) ≡ a ∷ c ∷ d ∷ []

-- the list, in the page's order
abbrev pub starred : List Case
starred =
    exact_passes 0 0
    ∷ exact_refused 1 0
    ∷ exact_refused 0 1
    ∷ exact_passes 16 16
    ∷ exact_refused 17 16
    ∷ ample_is 1 1
    ∷ ample_is 4 3
    ∷ ample_is 6 4
    ∷ ample_is 7 5
    ∷ out_of_order_awaits 1 2
    ∷ out_of_order_contested 1 0
    ∷ one_cut_one_added
    ∷ []
