-- Two attempts, in either order.
--     exchanged     their places, matched
--     keeps         the order within classes is kept where the two are in no class together
--     both          what holds of each
use Prim.Native.Nat.{ℕ, zero, suc, ◌<◌, ◌-◌}
use mathlib.Core.Path.{◌≡◌, refl, ap, ◌∙◌, subst}
use mathlib.Core.Option.{Option, some, none-ne-some, some-injective}
use mathlib.Core.List.{[], ◌∷◌}
use native.Mathlib.Omega.{arith}
use lib.ListN.{get_elem?}
use Rattle.ledger_step.specs.Orders.{Each, Matched, KeepsOrder}

module _ {A : Type 0} (s t : A) where
  pub twice : (i : ℕ) → i < 2 → 1 - (1 - i) ≡ i
  twice i h = omega (arith, h)

  pub placed : (i : ℕ) → i < 2 → get_elem? (t ∷ s ∷ []) (1 - i) ≡ get_elem? (s ∷ t ∷ []) i
  placed zero h = refl
  placed (suc zero) h = refl
  placed (suc (suc i)) h = absurd (omega (arith, h))

  abbrev pub exchanged : Matched (s ∷ t ∷ []) (t ∷ s ∷ [])
  exchanged = record
      { to = λ i. 1 - i; from = λ i. 1 - i; to_in = λ i h. omega (arith, h); from_in = λ i h. omega (arith, h); from-to = twice; to-from = twice; same = placed }

  pub keeps : {K : Type 0} (class : A → Option K) → ((k : K) → class s ≡ some k → class t ≡ some k → ⊥) → KeepsOrder class exchanged
  keeps class apart k zero zero x y e f p q h = absurd (omega (arith, h))
  keeps class apart k zero (suc zero) x y e f p q h =
      absurd (apart k (ap class (some-injective _ _ e) ∙ p) (ap class (some-injective _ _ f) ∙ q))
  keeps class apart k zero (suc (suc j)) x y e f p q h = absurd (none-ne-some _ f)
  keeps class apart k (suc zero) zero x y e f p q h = absurd (omega (arith, h))
  keeps class apart k (suc zero) (suc zero) x y e f p q h = absurd (omega (arith, h))
  keeps class apart k (suc zero) (suc (suc j)) x y e f p q h = absurd (none-ne-some _ f)
  keeps class apart k (suc (suc i)) j x y e f p q h = absurd (none-ne-some _ e)

  pub both : (P : A → Type 0) → P s → P t → Each P (s ∷ t ∷ [])
  both P a b zero x e = subst P (some-injective _ _ e) a
  both P a b (suc zero) x e = subst P (some-injective _ _ e) b
  both P a b (suc (suc i)) x e = absurd (none-ne-some _ e)
