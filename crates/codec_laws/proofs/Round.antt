-- The round trips of the definitions that the contracts of `read` and `write` cite. (Numbers of any width: `at-put` and `put-at` of the crate `laws`.)
--     sn-back, sn-again           a sequence number that was written is read; one that was read writes the same bytes
--     matter-back, matter-again   the same for a primitive
--     same_bytes                  two primitives are equal exactly when their 33 bytes are
use Prim.Native.Nat.{ℕ, ◌+◌, ◌%◌, ◌^◌, ◌<◌, ◌≤◌}
use mathlib.Core.Path.{◌≡◌, refl, ap, sym, ◌∙◌}
use mathlib.Core.List.{List, [], ◌∷◌, ◌++◌, append_assoc, append-nil}
use mathlib.Core.Bool.{Bool, true, false, cond}
use mathlib.Core.Logic.{◌↔◌}
use native.Mathlib.Nat.{add_assoc, mod-eq_of_lt}
use native.Mathlib.Omega.{arith}
use lib.ListN.{length, get_or, take, drop, length-append}
use lib.Seq.{sets-eq, length-take-le, get_or_at, take-add, drop-drop, drop-cons}
use Rattle.laws.specs.Number.{number, number_at, digits, Bytes}
use Rattle.laws.specs.Room.{room, put}
use Rattle.laws.proofs.Number.{number-at, number-below, digits_number, length_digits, at-put, put-at}
use Rattle.laws.proofs.Room.{room-true, room-false, true-room, put-sets, put-none, stored_same}
use Rattle.cesr_sn.specs.declared.Sn.{Sn}
use Rattle.codec.specs.declared.Matter.{Matter}
use Rattle.cesr_sn.specs.Numbers.{value, sn_of, read_sn, sn_bytes}
use Rattle.codec.specs.Primitives.{none, matter_bytes, read_matter, eq_matter}
use Rattle.cesr_sn.proofs.Words.{Fit, words-value, value-words, value-fits}
use Rattle.codec.proofs.Matters.{made, length-matter, matter-eq, eq-matter}

pub sn-back : (l : List ℕ) (at : ℕ) (n : Sn) → Fit n → at + 16 ≤ length l → read_sn (put l at (sn_bytes n)) at ≡ n
unfolding read_sn sn_bytes
sn-back l at n f h =
    ap sn_of (at-put l at 16 (value n) h (value-fits n f.hi f.lo)) ∙ words-value n f

number_at-below : (l : List ℕ) (at n : ℕ) → Bytes l → 0 < 256 ^ n → number_at l at n < 256 ^ n
unfolding number_at
number_at-below l at n b h = go (room l at n)
  where
    go : (t : Bool) → cond t (number l at n) 0 < 256 ^ n
    go true = number-below l at n b
    go false = h

pub sn-again : (l : List ℕ) (at : ℕ) → Bytes l → put l at (sn_bytes (read_sn l at)) ≡ l
unfolding read_sn sn_bytes
sn-again l at b = rw (value-words (number_at l at 16) (number_at-below l at 16 b (lib.Dec.lit< tt))) (put-at l at 16 b)

-- the letter is a byte, and the four words are words
pub record Filled (m : Matter) : Type 0 where
  pub code : m.code < 256
  pub w0 : m.w0 < 256 ^ 8
  pub w1 : m.w1 < 256 ^ 8
  pub w2 : m.w2 < 256 ^ 8
  pub w3 : m.w3 < 256 ^ 8

-- so they are of a primitive that was read
pub read-filled : (s : List ℕ) (at : ℕ) → Bytes s → Filled (read_matter s at)
unfolding read_matter
read-filled s at b = go (room s at 33)
  where
    whole : Filled (record { code = get_or s at 0; w0 = number s (at + 1) 8; w1 = number s (at + 9) 8; w2 = number s (at + 17) 8; w3 = number s (at + 25) 8 })
    whole = record { code = b at; w0 = number-below s (at + 1) 8 b; w1 = number-below s (at + 9) 8 b; w2 = number-below s (at + 17) 8 b; w3 = number-below s (at + 25) 8 b }

    empty : Filled none
    empty = record { code = lib.Dec.lit< tt; w0 = lib.Dec.lit< tt; w1 = lib.Dec.lit< tt; w2 = lib.Dec.lit< tt; w3 = lib.Dec.lit< tt }

    go : (t : Bool) → Filled (cond t (record { code = get_or s at 0; w0 = number s (at + 1) 8; w1 = number s (at + 9) 8; w2 = number s (at + 17) 8; w3 = number s (at + 25) 8 }) none)
    go true = whole
    go false = empty

-- a primitive is found where its bytes stand
pub matter-at : (x : Matter) (p q l : List ℕ) (at : ℕ) → Filled x → l ≡ p ++ (matter_bytes x ++ q) → length p ≡ at → read_matter l at ≡ x
unfolding matter_bytes read_matter
matter-at x p q l at f e g =
    let c = x.code % 256 ∷ [] in
    let d0 = digits 8 x.w0 in
    let d1 = digits 8 x.w1 in
    let d2 = digits 8 x.w2 in
    let d3 = digits 8 x.w3 in
    let z : length l ≡ at + 33 + length q = rw e (simp (length-append, length_digits) (rw g (omega arith))) in
    rw (true-room l at 33 (omega arith), e, ← g)
    (made (get_or_at p (x.code % 256) _ 0 (length p) refl ∙ mod-eq_of_lt f.code)
    (number-at _ (p ++ c) (d1 ++ (d2 ++ (d3 ++ q))) _ 8 x.w0 (simp append_assoc) (simp length-append) f.w0)
    (number-at _ (p ++ (c ++ d0)) (d2 ++ (d3 ++ q)) _ 8 x.w1 (simp append_assoc) (simp (length-append, length_digits)) f.w1)
    (number-at _ (p ++ (c ++ (d0 ++ d1))) (d3 ++ q) _ 8 x.w2 (simp append_assoc) (simp (length-append, length_digits)) f.w2)
    (number-at _ (p ++ (c ++ (d0 ++ (d1 ++ d2)))) q _ 8 x.w3 (simp append_assoc) (simp (length-append, length_digits)) f.w3))

pub matter-back : (l : List ℕ) (at : ℕ) (x : Matter) → Filled x → at + 33 ≤ length l → read_matter (put l at (matter_bytes x)) at ≡ x
matter-back l at x f h =
    let g = length-matter x in
    matter-at x (take at l) (drop (at + length (matter_bytes x)) l) _ at f
    (put-sets l at 33 (matter_bytes x) g h ∙ sets-eq (matter_bytes x) l at (rw g h) ∙ rw append_assoc)
    (length-take-le at l (omega arith))

-- a part is its pieces
pieces : (n m at : ℕ) (s : List ℕ) → take (n + m) (drop at s) ≡ take n (drop at s) ++ take m (drop (at + n) s)
pieces n m at s = rw (take-add, drop-drop)

-- what was read has the bytes that stand there
pub matter-bytes : (s : List ℕ) (at : ℕ) → Bytes s → at + 33 ≤ length s → matter_bytes (read_matter s at) ≡ take 33 (drop at s)
unfolding matter_bytes read_matter
matter-bytes s at b h =
    let d : (k : ℕ) → at + k + 8 ≤ length s → digits 8 (number s (at + k) 8) ≡ take 8 (drop (at + k) s) = λ k l. digits_number 8 s (at + k) b l in
    let one : take 1 (drop at s) ≡ get_or s at 0 ∷ [] = ap (take 1) (drop-cons s at 0 (omega arith)) in
    rw (true-room s at 33 h, mod-eq_of_lt (b at), d 1 (omega arith), d 9 (omega arith), d 17 (omega arith), d 25 (omega arith))
    (sym (pieces 1 32 at s ∙ rw one (ap (λ (r : List ℕ). get_or s at 0 ∷ r) (simp (pieces 8 24, pieces 8 16, pieces 8 8, add_assoc)))))

pub matter-again : (l : List ℕ) (at : ℕ) → Bytes l → put l at (matter_bytes (read_matter l at)) ≡ l
matter-again l at b = go (room l at 33) refl
  where
    go : (t : Bool) → room l at 33 ≡ t → put l at (matter_bytes (read_matter l at)) ≡ l
    go true e =
        let h = room-true l at 33 e in
        put-sets l at 33 _ (length-matter (read_matter l at)) h ∙ stored_same l at 33 _ h (matter-bytes l at b h)
    go false e = put-none l at 33 _ (length-matter (read_matter l at)) (room-false l at 33 e)

pub same_bytes : (a b : Matter) → Filled a → Filled b → (eq_matter a b ≡ true) ↔ (matter_bytes a ≡ matter_bytes b)
same_bytes a b f g = (
  λ e. ap matter_bytes (matter-eq a b e),
  λ e.
      let p : a ≡ b =
      sym (matter-at a [] [] (matter_bytes a) 0 f (sym (append-nil (matter_bytes a))) refl)
      ∙ ap (λ (l : List ℕ). read_matter l 0) e
      ∙ matter-at b [] [] (matter_bytes b) 0 g (sym (append-nil (matter_bytes b))) refl in
      rw p (eq-matter b),
)
