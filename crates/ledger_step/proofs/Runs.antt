-- Runs, call by call.
--     before, before-suc          what the call at a place gets
--     answers_at, final-before    what it answers, and what the run leaves
--     idle-answers, idle-final    where every call answers the same and changes nothing
use Prim.Native.Nat.{ℕ, zero, suc, ◌<◌}
use mathlib.Core.Path.{◌≡◌, refl, ap}
use mathlib.Core.Option.{some, none-ne-some, some-injective}
use mathlib.Core.List.{List, [], ◌∷◌}
use native.Mathlib.Nat.{not-suc-le-zero, le_of_suc-le-suc}
use lib.ListN.{length, get_elem?}
use Rattle.ledger_step.specs.Orders.{final, answers}

module _ {S A : Type 0} (next : S → A → S) where
  unfoldable pub before : S → List A → ℕ → S
  before s l zero = s
  before s [] (suc i) = s
  before s (x ∷ l) (suc i) = before (next s x) l i

  pub before-suc : (s : S) (l : List A) (i : ℕ) (x : A) → get_elem? l i ≡ some x → before s l (suc i) ≡ next (before s l i) x
  unfolding before
  before-suc s [] i x e = absurd (none-ne-some _ e)
  before-suc s (y ∷ l) zero x e = ap (next s) (some-injective _ _ e)
  before-suc s (y ∷ l) (suc i) x e = before-suc (next s y) l i x e

  pub final-before : (s : S) (l : List A) → final next s l ≡ before s l (length l)
  unfolding before final
  final-before s [] = refl
  final-before s (x ∷ l) = final-before (next s x) l

  module _ {R : Type 0} (answer : S → A → R) where
    pub answers_at : (s : S) (l : List A) (i : ℕ) (x : A) → get_elem? l i ≡ some x → get_elem? (answers next answer s l) i ≡ some (answer (before s l i) x)
    unfolding before answers
    answers_at s [] i x e = absurd (none-ne-some _ e)
    answers_at s (y ∷ l) zero x e = ap (λ (z : A). some (answer s z)) (some-injective _ _ e)
    answers_at s (y ∷ l) (suc i) x e = answers_at (next s y) l i x e

  module _ (s : S) (still : (a : A) → next s a ≡ s) where
    pub idle-final : (l : List A) → final next s l ≡ s
    unfolding final
    idle-final [] = refl
    idle-final (x ∷ l) = rw (still x) (idle-final l)

    pub idle-answers : {R : Type 0} (answer : S → A → R) (r : R) → ((a : A) → answer s a ≡ r) → (l : List A) (i : ℕ) → i < length l → get_elem? (answers next answer s l) i ≡ some r
    unfolding answers
    idle-answers answer r says [] i h = absurd (not-suc-le-zero h)
    idle-answers answer r says (x ∷ l) zero h = rw (says x)
    idle-answers answer r says (x ∷ l) (suc i) h = rw (still x) (idle-answers answer r says l i (le_of_suc-le-suc h))
