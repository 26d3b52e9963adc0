-- Two orders of the same attempts, and runs over them (docs/RULES.md, "Two orders").
use Rattle.std.specs.Prelude.{ℕ, ◌<◌, ◌≡◌, List, [], ◌∷◌, length}
use Rattle.std.proofs.Math.Option.{Option, some}
use Rattle.std.proofs.Math.ListN.{get_elem?}

-- P holds of the element at every place
abbrev pub Each : {A : Type 0} → (A → Type 0) → List A → Type 0
Each {A} P l = (i : ℕ) (x : A) → get_elem? l i ≡ some x → P x

-- The places of two lists, matched one to one, with the same at both. Equal attempts are kept apart: each has its own place in either list.
pub record Matched {A : Type 0} (xs ys : List A) : Type 0 where
  pub to : ℕ → ℕ
  pub from : ℕ → ℕ
  pub to_in : (i : ℕ) → i < length xs → to i < length ys
  pub from_in : (j : ℕ) → j < length ys → from j < length xs
  pub from-to : (i : ℕ) → i < length xs → from (to i) ≡ i
  pub to-from : (j : ℕ) → j < length ys → to (from j) ≡ j
  pub same : (i : ℕ) → i < length xs → get_elem? ys (to i) ≡ get_elem? xs i

-- of two attempts in one class, the one that is earlier in the one list is earlier in the other
abbrev pub KeepsOrder : {A K : Type 0} → (A → Option K) → {xs ys : List A} → Matched xs ys → Type 0
KeepsOrder {A} {K} class {xs} m =
    (k : K) (i j : ℕ) (x y : A) → get_elem? xs i ≡ some x → get_elem? xs j ≡ some y → class x ≡ some k → class y ≡ some k → i < j → m.to i < m.to j

-- what a run leaves: every call gets what the last one left
module _ {S A : Type 0} (next : S → A → S) where
  unfoldable pub final : S → List A → S
  final s [] = s
  final s (x ∷ l) = final (next s x) l

  -- and what its calls answer, in their order
  unfoldable pub answers : {R : Type 0} → (S → A → R) → S → List A → List R
  answers answer s [] = []
  answers answer s (x ∷ l) = answer s x ∷ answers answer (next s x) l
