-- Laws of big-endian numbers, each stated once over the width.
--     number-split, digits-split   a number of n + m bytes is one of n, then one of m
--     number-below, digits-bytes   the range of a number, and of its bytes
--     number_digits, number-at     what was written reads back
--     digits_number                what was read writes the same bytes
--     read_whole, read_none        what a reader that tests for room answers
--     at-put, put-at               both, through `number_at` and `put`
use Prim.Native.Nat.{ℕ, zero, suc, ◌+◌, ◌*◌, ◌/◌, ◌%◌, ◌^◌, ◌<◌, ◌≤◌}
use mathlib.Core.Path.{◌≡◌, refl, ap, sym, ◌∙◌}
use mathlib.Core.List.{List, [], ◌∷◌, ◌++◌, append_assoc, append-nil}
use mathlib.Core.Bool.{Bool, true, false, cond}
use native.Mathlib.Nat.{add-zero, add-suc, add_assoc, mul_assoc, mul-one, mod-lt, pow-zero, pow-suc, div-add-mod', div-lt_iff_lt-mul, div-one, div-div-eq-div-mul, mul_comm}
use native.Mathlib.Numerals.{add-one}
use native.Mathlib.Omega.{arith}
use lib.Arith.{digits_lt, digits_div, digits_mod, mod-mul}
use lib.Dec.{leb, lit<}
use lib.ListN.{length, get_or, take, drop, length-append, length-drop}
use lib.Seq.{sets, sets-eq, length-take-le, get_or-append-add, get_or_at, take-suc, get_or-drop}
use Rattle.laws.specs.Room.{room, put}
use Rattle.laws.specs.Number.{number, number_at, digits, Bytes}
use Rattle.laws.proofs.Room.{true-room, room-true, put-sets, length-put, sets-append, stored_same}

pub number_step : (s : List ℕ) (at n : ℕ) → number s at (n + 1) ≡ number s at n * 256 + get_or s (at + n) 0
unfolding number
number_step s at n = rw add-one

pub digits_step : (n x : ℕ) → digits (n + 1) x ≡ digits n (x / 256) ++ (x % 256 ∷ [])
unfolding digits
digits_step n x = rw add-one

pub length_digits : (n x : ℕ) → length (digits n x) ≡ n
unfolding digits
length_digits zero x = refl
length_digits (suc n) x = length-append (digits n (x / 256)) (x % 256 ∷ []) ∙ ap (λ (k : ℕ). k + 1) (length_digits n (x / 256)) ∙ add-one n

pub number-below : (s : List ℕ) (at n : ℕ) → Bytes s → number s at n < 256 ^ n
unfolding number
number-below s at zero b = rw pow-zero (omega arith)
number-below s at (suc n) b = rw pow-suc (digits_lt (number-below s at n b) (b (at + n)))

pub number-split : (s : List ℕ) (at n m : ℕ) → number s at (n + m) ≡ number s at n * 256 ^ m + number s (at + n) m
unfolding number
number-split s at n zero = rw (add-zero, pow-zero, mul-one, add-zero)
number-split s at n (suc m) =
    let e : n + suc m ≡ suc (n + m) = add-suc n m in
    rw (e, number-split s at n m, pow-suc, ← mul_assoc, ← add_assoc at n m) (omega arith)

pow_pos : (m : ℕ) → 0 < 256 ^ m
pow_pos zero = rw pow-zero (omega arith)
pow_pos (suc m) = rw pow-suc (omega (arith, pow_pos m))

pub digits-split : (n m x : ℕ) → digits (n + m) x ≡ digits n (x / 256 ^ m) ++ digits m x
unfolding digits
digits-split n zero x = rw (add-zero, pow-zero, div-one) (sym (append-nil (digits n x)))
digits-split n (suc m) x =
    let e : n + suc m ≡ suc (n + m) = add-suc n m in
    let q : x / 256 / 256 ^ m ≡ x / 256 ^ suc m = div-div-eq-div-mul x 256 (256 ^ m) ∙ ap (λ (k : ℕ). x / k) (mul_comm 256 (256 ^ m) ∙ sym (pow-suc 256 m)) in
    rw (e, digits-split n m (x / 256), q, append_assoc)

-- the bytes of a number are those of its rest
pub digits-rest : (m x : ℕ) → digits m (x % 256 ^ m) ≡ digits m x
unfolding digits
digits-rest zero x = refl
digits-rest (suc m) x =
    let r : x % 256 ^ suc m ≡ x / 256 % 256 ^ m * 256 + x % 256 = ap (λ (k : ℕ). x % k) (pow-suc 256 m) ∙ mod-mul x (pow_pos m) (lit< tt) in
    let b : x % 256 < 256 = mod-lt x (lit< tt) in
    rw (r, digits_div (x / 256 % 256 ^ m) b, digits_mod (x / 256 % 256 ^ m) b, digits-rest m (x / 256))

pub number_digits : (n x : ℕ) (p q : List ℕ) → x < 256 ^ n → number (p ++ (digits n x ++ q)) (length p) n ≡ x
unfolding number digits
number_digits zero x p q h = omega (arith, simp pow-zero at h)
number_digits (suc n) x p q h =
    let d = digits n (x / 256) in
    let l : List ℕ = p ++ (d ++ (x % 256 ∷ q)) in
    let e : p ++ ((d ++ (x % 256 ∷ [])) ++ q) ≡ l = ap (λ (t : List ℕ). p ++ t) (append_assoc d (x % 256 ∷ []) q) in
    let hi : x / 256 < 256 ^ n = (div-lt_iff_lt-mul (lit< tt)).1 (rw pow-suc at h) in
    ap (λ (t : List ℕ). number t (length p) n * 256 + get_or t (length p + n) 0) e
    ∙ ap (λ (k : ℕ). k * 256 + get_or l (length p + n) 0) (number_digits n (x / 256) p (x % 256 ∷ q) hi)
    ∙ ap (λ (k : ℕ). x / 256 * 256 + k)
    (get_or-append-add p (d ++ (x % 256 ∷ q)) n 0 ∙ get_or_at d (x % 256) q 0 n (length_digits n (x / 256)))
    ∙ div-add-mod' x 256

-- a number is found where its bytes stand
pub number-at : (l p q : List ℕ) (at n x : ℕ) → l ≡ p ++ (digits n x ++ q) → length p ≡ at → x < 256 ^ n → number l at n ≡ x
number-at l p q at n x e f h = rw (e, ← f) (number_digits n x p q h)

pub digits_number : (n : ℕ) (s : List ℕ) (at : ℕ) → Bytes s → at + n ≤ length s → digits n (number s at n) ≡ take n (drop at s)
unfolding number digits
digits_number zero s at b h = refl
digits_number (suc n) s at b h =
    let q = number s at n in
    let k : at + n < length s = omega (arith, add-suc at n) in
    let l : n < length (drop at s) = rw length-drop (omega arith) in
    ap (λ (y : ℕ). digits n y ++ ((q * 256 + get_or s (at + n) 0) % 256 ∷ [])) (digits_div q (b (at + n)))
    ∙ ap (λ (y : ℕ). digits n q ++ (y ∷ [])) (digits_mod q (b (at + n)))
    ∙ ap (λ (r : List ℕ). r ++ (get_or s (at + n) 0 ∷ [])) (digits_number n s at b (omega arith))
    ∙ sym (take-suc (drop at s) n 0 l ∙ rw get_or-drop)

-- a number stored as its upper bytes, then its lower ones
pub sets-digits : (l : List ℕ) (at n m x : ℕ) → sets (sets l at (digits n (x / 256 ^ m))) (at + n) (digits m (x % 256 ^ m)) ≡ sets l at (digits (n + m) x)
sets-digits l at n m x = rw (digits-split n m x, sets-append, length_digits, digits-rest)

-- what a reader that tests for room answers
pub read_whole : (s : List ℕ) (at n : ℕ) → leb (at + n) (length s) ≡ true → number_at s at n ≡ number s at n
unfolding number_at room
read_whole s at n h = rw h

pub read_none : (s : List ℕ) (at n : ℕ) → leb (at + n) (length s) ≡ false → number_at s at n ≡ 0
unfolding number_at room
read_none s at n h = rw h

pub whole-number : (s : List ℕ) (at n : ℕ) → at + n ≤ length s → number_at s at n ≡ number s at n
unfolding number_at
whole-number s at n h = rw (true-room s at n h)

-- what was stored is read
pub at-put : (l : List ℕ) (at n x : ℕ) → at + n ≤ length l → x < 256 ^ n → number_at (put l at (digits n x)) at n ≡ x
at-put l at n x h k =
    let d = digits n x in
    let g : length d ≡ n = length_digits n x in
    let p : put l at d ≡ take at l ++ (d ++ drop (at + length d) l) = put-sets l at n d g h ∙ sets-eq d l at (rw g h) ∙ rw append_assoc in
    let w : at + n ≤ length (put l at d) = rw length-put h in
    whole-number (put l at d) at n w ∙ number-at (put l at d) (take at l) (drop (at + length d) l) at n x p (length-take-le at l (omega arith)) k

-- what is read is stored without a change
pub put-at : (l : List ℕ) (at n : ℕ) → Bytes l → put l at (digits n (number_at l at n)) ≡ l
unfolding put number_at
put-at l at n b = go (room l at n) refl
  where
    go : (t : Bool) → room l at n ≡ t → cond (room l at (length (digits n (cond (room l at n) (number l at n) 0)))) (sets l at (digits n (cond (room l at n) (number l at n) 0))) l ≡ l
    go true e = rw (e, length_digits, e) (stored_same l at n (digits n (number l at n)) (room-true l at n e) (digits_number n l at b (room-true l at n e)))
    go false e = rw (length_digits, e)
