-- Laws of decimals.
--     decimal-small, decimal-large   a number below ten is its digit; any other is the digits of its tenth, then its last digit
--     decimal-length                 how many digits a number has at most
--     decimal-counted                how many it has
--     decimal-spelled                the digits, from the number of them
--     copied                         a text that is copied is stored byte by byte
use Prim.Native.Nat.{ℕ, zero, suc, ◌+◌, ◌*◌, ◌/◌, ◌%◌, ◌^◌, ◌≤◌, ◌<◌}
use mathlib.Core.Path.{◌≡◌, refl, sym, ap, ◌∙◌}
use mathlib.Core.Bool.{Bool, true, false}
use mathlib.Core.List.{List, [], ◌∷◌, ◌++◌, append_assoc}
use native.Mathlib.Nat.{div-lt_self, div-lt_iff_lt-mul, le-div_iff_mul-le, one-le-pow, mod-eq_of_lt, pow-zero, pow-suc}
use native.Mathlib.Numerals.{add-one}
use native.Mathlib.Omega.{arith}
use borrow.Author.Tests.{ltb-true, ltb-false, lt-ltb, le-ltb}
use lib.Dec.{ltb, lit<}
use lib.ListN.{length, set, length-append}
use lib.Seq.{sets, sets-eq}
use borrow.Rule.Slice.PartMut.{put_mid}
use Rattle.std.proofs.lemmas.List.{drop-drop}
use Rattle.laws.proofs.Room.{sets-snoc}
use Rattle.ledger_text.specs.Lines.{decimal_in, decimal}

pub tenth : (n : ℕ) → 10 ≤ n → n / 10 < n
tenth n h = div-lt_self (omega arith) (omega arith)

-- the steps down are enough
enough : (k m n : ℕ) → n < k → n < m → decimal_in k n ≡ decimal_in m n
unfolding decimal_in
enough zero m n h g = absurd (omega arith)
enough (suc k) zero n h g = absurd (omega arith)
enough (suc k) (suc m) n h g = step (ltb n 10) refl (λ (t : 10 ≤ n). enough k m (n / 10) (omega (arith, tenth n t)) (omega (arith, tenth n t)))
  where
    step : (b : Bool) → ltb n 10 ≡ b → (10 ≤ n → decimal_in k (n / 10) ≡ decimal_in m (n / 10)) → decimal_in (suc k) n ≡ decimal_in (suc m) n
    step true e r = rw e
    step false e r = rw (e, r (ltb-false n 10 e))

pub decimal-small : (n : ℕ) → n < 10 → decimal n ≡ (48 + n) ∷ []
unfolding decimal decimal_in
decimal-small n h = rw (lt-ltb n 10 h)

pub decimal-large : (n : ℕ) → 10 ≤ n → decimal n ≡ decimal (n / 10) ++ ((48 + n % 10) ∷ [])
unfolding decimal decimal_in
decimal-large n h =
    let e = enough n (suc (n / 10)) (n / 10) (tenth n h) (omega arith) in
    rw (le-ltb n 10 h, e)

-- the last k digits of n
unfoldable pub spelled : ℕ → ℕ → List ℕ
spelled zero n = []
spelled (suc k) n = spelled k (n / 10) ++ ((48 + n % 10) ∷ [])

pub spelled_step : (k n : ℕ) → spelled (k + 1) n ≡ spelled k (n / 10) ++ ((48 + n % 10) ∷ [])
unfolding spelled
spelled_step k n = rw add-one

pub length-spelled : (k n : ℕ) → length (spelled k n) ≡ k
unfolding spelled
length-spelled zero n = refl
length-spelled (suc k) n = rw (length-append, length-spelled k (n / 10)) (add-one k)

pub decimal-length : (k n : ℕ) → n < 10 ^ k → 0 < k → length (decimal n) ≤ k
decimal-length zero n h g = absurd (omega arith)
decimal-length (suc k) n h g = step (ltb n 10) refl (λ (t : 10 ≤ n). decimal-length k (n / 10) (below t) (more k (rw pow-suc at h) t))
  where
    below : 10 ≤ n → n / 10 < 10 ^ k
    below t = (div-lt_iff_lt-mul {k = 10} (omega arith)).1 (rw pow-suc at h)

    more : (k : ℕ) → n < 10 ^ k * 10 → 10 ≤ n → 0 < k
    more zero f t = absurd (omega (arith, pow-zero 10))
    more (suc k) f t = omega arith

    step : (b : Bool) → ltb n 10 ≡ b → (10 ≤ n → length (decimal (n / 10)) ≤ k) → length (decimal n) ≤ suc k
    step true e r = rw (decimal-small n (ltb-true n 10 e)) (omega arith)
    step false e r = rw (decimal-large n (ltb-false n 10 e), length-append) (omega (arith, r (ltb-false n 10 e)))

-- A number of 64 bits has at most 20 digits.
pub word-length : (n : ℕ) → n < 2 ^ 64 → length (decimal n) ≤ 20
word-length n h = let e : 2 ^ 64 < 10 ^ 20 = lit< tt in decimal-length 20 n (omega arith) (omega arith)

spelled-below : (b n : ℕ) → n < b → decimal n ≡ spelled (length (decimal n)) n
unfolding spelled
spelled-below zero n h = absurd (omega arith)
spelled-below (suc b) n h = step (ltb n 10) refl (λ (t : 10 ≤ n). spelled-below b (n / 10) (omega (arith, tenth n t)))
  where
    step : (t : Bool) → ltb n 10 ≡ t → (10 ≤ n → decimal (n / 10) ≡ spelled (length (decimal (n / 10))) (n / 10)) → decimal n ≡ spelled (length (decimal n)) n
    step true e r = rw (decimal-small n (ltb-true n 10 e), mod-eq_of_lt (ltb-true n 10 e))
    step false e r =
        let g = ltb-false n 10 e in
        rw (decimal-large n g, length-append, add-one) (ap (λ (l : List ℕ). l ++ ((48 + n % 10) ∷ [])) (r g))

pub decimal-spelled : (n : ℕ) → decimal n ≡ spelled (length (decimal n)) n
decimal-spelled n = spelled-below (suc n) n (omega arith)

-- a number from a power of ten on and below the next has a digit more than the power, and 0 has as many as 1
pub decimal-counted : (k n m : ℕ) → 10 ^ k ≤ m → m < 10 * 10 ^ k → n ≤ m → (1 < m → m ≤ n) → length (decimal n) ≡ k + 1
decimal-counted zero n m l h s g = rw (decimal-small n (omega (arith, pow-zero 10)))
decimal-counted (suc k) n m l h s g =
    let from = rw pow-suc at l in
    let below = rw pow-suc at h in
    let large : 10 ≤ m = omega (arith, one-le-pow k 10 (omega arith)) in
    let same : m ≤ n = g (omega arith) in
    let rest = decimal-counted k (n / 10) (n / 10) ((le-div_iff_mul-le (omega arith)).1 (omega arith)) ((div-lt_iff_lt-mul (omega arith)).1 (omega arith)) (omega arith) (λ t. omega arith) in
    rw (decimal-large n (omega arith), length-append) (ap (λ d. d + 1) (rest ∙ add-one k))

-- the last digit may be stored first
pub digit-put : (l : List ℕ) (at i j rest : ℕ) → i + 1 ≡ j → sets (set l (at + i) (48 + rest % 10)) at (spelled i (rest / 10)) ≡ sets l at (spelled j rest)
digit-put l at i j rest e = rw (← e, spelled_step i rest, sets-snoc l at (spelled i (rest / 10)) (48 + rest % 10), length-spelled i (rest / 10))

pub copied : (xs ys : List ℕ) (a k : ℕ) → k ≡ length ys → a + k ≤ length xs → put_mid a k xs ys ≡ sets xs a ys
copied xs ys a k e h =
    let h' : a + length ys ≤ length xs = omega arith in
    let stored = rw append_assoc at (sets-eq ys xs a h') in
    rw (e, drop-drop) (sym stored)
