-- An array and a count, seen as the list of its first elements, each by its view: stated once, for any element and any view.
--     seen_size, seen_at, seen-set, seen-push   through a view of the elements
--     kept-size, kept_at, kept_set, kept_push   the elements as they are
use Prim.Native.Nat.{ℕ, zero, suc, ◌+◌, ◌<◌, min}
use mathlib.Core.Path.{◌≡◌, refl, ap, sym, ◌∙◌}
use mathlib.Core.List.{List, [], ◌∷◌, ◌++◌, map}
use native.Mathlib.Omega.{arith}
use native.Mathlib.Numerals.{add-one}
use lib.ListN.{length, length-map, length-take, take, set, get_or, get_or-map}
use lib.Seq.{get_or-take, take-suc, take-suc-set, take-set-lt}

-- the length of an array of structs, as the array's own fact states it
pub length-mapped : (X Y : Type 0) (f : X → Y) (l : List X) (n : ℕ) → length (map f l) ≡ n → length l ≡ n
length-mapped X Y f l n e = sym (length-map l f) ∙ e

-- one element more
pub take_step : {A : Type 0} (l : List A) (i : ℕ) (d : A) → i < length l → take (i + 1) l ≡ take i l ++ (get_or l i d ∷ [])
take_step l i d h = rw add-one (take-suc l i d h)

-- a count past the end of a list takes no more than its length
pub take_counted : {A : Type 0} (n : ℕ) (l : List A) → take (length (take n l)) l ≡ take n l
take_counted zero l = refl
take_counted (suc n) [] = refl
take_counted {A} (suc n) (x ∷ l) = ap (λ (r : List A). x ∷ r) (take_counted n l)

module _ {A : Type 0} (n k : ℕ) (l : List A) (h : length l ≡ k) where
  pub kept-size : length (take n l) ≡ min n k
  kept-size = rw (length-take, h)

  pub kept_at : (i : ℕ) (d : A) → i < length (take n l) → get_or l i d ≡ get_or (take n l) i d
  kept_at i d b = sym (get_or-take n l i d (omega (arith, kept-size)))

  pub kept_set : (i : ℕ) (x : A) → i < length (take n l) → take n (set l i x) ≡ set (take n l) i x
  kept_set i x b = take-set-lt n l i x (omega (arith, kept-size))

  pub kept_push : (x : A) → length (take n l) < k → take (n + 1) (set l n x) ≡ take n l ++ (x ∷ [])
  kept_push x b = rw (add-one, take-suc-set l n x (omega (arith, kept-size)))

module _ {A B : Type 0} (f : A → B) where
  map-set : (l : List A) (i : ℕ) (x : A) → map f (set l i x) ≡ set (map f l) i (f x)
  map-set [] i x = refl
  map-set (y ∷ l) zero x = refl
  map-set (y ∷ l) (suc i) x = ap (λ (r : List B). f y ∷ r) (map-set l i x)

  map_snoc : (l : List A) (x : A) → map f (l ++ (x ∷ [])) ≡ map f l ++ (f x ∷ [])
  map_snoc [] x = refl
  map_snoc (y ∷ l) x = ap (λ (r : List B). f y ∷ r) (map_snoc l x)

  module _ (n k : ℕ) (l : List A) (h : length l ≡ k) where
    pub seen_size : length (map f (take n l)) ≡ min n k
    seen_size = rw (length-map, length-take, h)

    pub seen_at : (i : ℕ) (d : A) → i < length (map f (take n l)) → f (get_or l i d) ≡ get_or (map f (take n l)) i (f d)
    seen_at i d b = sym (get_or-map f (take n l) i d ∙ ap f (get_or-take n l i d (omega (arith, seen_size))))

    pub seen-set : (i : ℕ) (x : A) → i < length (map f (take n l)) → map f (take n (set l i x)) ≡ set (map f (take n l)) i (f x)
    seen-set i x b = rw (take-set-lt n l i x (omega (arith, seen_size)), map-set)

    pub seen-push : (x : A) → length (map f (take n l)) < k → map f (take (n + 1) (set l n x)) ≡ map f (take n l) ++ (f x ∷ [])
    seen-push x b = rw (add-one, take-suc-set l n x (omega (arith, seen_size)), map_snoc)
