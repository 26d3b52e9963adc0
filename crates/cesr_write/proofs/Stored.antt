-- The bytes of a primitive, stored.
--     words-put     a letter and four words, one behind the other
--     matter-part   the bytes of a primitive that is there are those at its place
use Prim.Native.Nat.{ℕ, ◌+◌, ◌≤◌}
use mathlib.Core.Path.{◌≡◌, sym, ap, ◌∙◌}
use mathlib.Core.List.{List, ◌∷◌, ◌++◌}
use native.Mathlib.Nat.{add_assoc, mod-eq_of_lt}
use native.Mathlib.Numerals.{add-one}
use native.Mathlib.Omega.{arith}
use lib.ListN.{length, set, length-set, take, drop, get_or}
use lib.Seq.{sets, length-sets, take-add, drop-drop, drop-cons}
use Rattle.laws.specs.Number.{digits, Bytes}
use Rattle.laws.specs.Room.{put}
use Rattle.laws.proofs.Number.{length_digits, digits_number}
use Rattle.laws.proofs.Room.{sets-append, put-sets, true-room}
use Rattle.cesr.specs.Primitives.{word_bytes, matter_bytes, read_matter}

word-sets : (l : List ℕ) (at c x y z w : ℕ) → sets (sets (sets (sets (set l at c) (at + 1) (digits 8 x)) (at + 9) (digits 8 y)) (at + 17) (digits 8 z)) (at + 25) (digits 8 w) ≡ sets l at (word_bytes c x y z w)
word-sets l at c x y z w = simp (sets-append, length_digits, add_assoc) (rw (add-one at))

pub words-put : (l : List ℕ) (at c x y z w : ℕ) → at + 33 ≤ length l → put (put (put (put (set l at c) (at + 1) (digits 8 x)) (at + 9) (digits 8 y)) (at + 17) (digits 8 z)) (at + 25) (digits 8 w) ≡ sets l at (word_bytes c x y z w)
words-put l at c x y z w h =
    let l0 = set l at c in
    let l1 = sets l0 (at + 1) (digits 8 x) in
    let l2 = sets l1 (at + 9) (digits 8 y) in
    let l3 = sets l2 (at + 17) (digits 8 z) in
    let n : length l3 ≡ length l = simp (length-sets, length-set) in
    let p0 = put-sets l0 (at + 1) 8 (digits 8 x) (length_digits 8 x) (rw length-set (omega arith)) in
    let p1 = put-sets l1 (at + 9) 8 (digits 8 y) (length_digits 8 y) (simp (length-sets, length-set) (omega arith)) in
    let p2 = put-sets l2 (at + 17) 8 (digits 8 z) (length_digits 8 z) (simp (length-sets, length-set) (omega arith)) in
    let p3 = put-sets l3 (at + 25) 8 (digits 8 w) (length_digits 8 w) (omega (arith, n)) in
    rw (p0, p1, p2, p3) (word-sets l at c x y z w)

-- a run of bytes is its first ones, then the others
more : (s : List ℕ) (at n m : ℕ) → take (n + m) (drop at s) ≡ take n (drop at s) ++ take m (drop (at + n) s)
more s at n m = take-add n m (drop at s) ∙ ap (λ (l : List ℕ). take n (drop at s) ++ take m l) (drop-drop n at s)

four : (s : List ℕ) (i j k l n : ℕ) → j ≡ i + n → k ≡ j + n → l ≡ k + n → take (n + (n + (n + n))) (drop i s) ≡ take n (drop i s) ++ (take n (drop j s) ++ (take n (drop k s) ++ take n (drop l s)))
four s i j k l n p q r = rw (r, q, p, more s i n (n + (n + n)), more s (i + n) n (n + n), more s (i + n + n) n n)

joined : (x : ℕ) (a b c d a1 b1 c1 d1 : List ℕ) → a ≡ a1 → b ≡ b1 → c ≡ c1 → d ≡ d1 → x ∷ (a ++ (b ++ (c ++ d))) ≡ x ∷ (a1 ++ (b1 ++ (c1 ++ d1)))
joined x a b c d a1 b1 c1 d1 p q r t = cc

pub matter-part : (s : List ℕ) (at : ℕ) → Bytes s → at + 33 ≤ length s → matter_bytes (read_matter s at) ≡ take 33 (drop at s)
unfolding matter_bytes read_matter
matter-part s at b h =
    let word = λ (i : ℕ) (k : i + 8 ≤ length s). digits_number 8 s i b k in
    let first : take 33 (drop at s) ≡ get_or s at 0 ∷ take 32 (drop (at + 1) s) = rw (drop-cons s at 0 (omega arith), add-one at) in
    rw (true-room s at 33 h, mod-eq_of_lt (b at))
    (joined (get_or s at 0) _ _ _ _ _ _ _ _ (word (at + 1) (omega arith)) (word (at + 9) (omega arith)) (word (at + 17) (omega arith)) (word (at + 25) (omega arith))
    ∙ ap (λ (l : List ℕ). get_or s at 0 ∷ l) (sym (four s (at + 1) (at + 9) (at + 17) (at + 25) 8 (omega arith) (omega arith) (omega arith)))
    ∙ sym first)
