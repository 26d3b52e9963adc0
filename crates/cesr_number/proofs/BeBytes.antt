-- Numbers by their bytes, as the library turns one into the other.
--     read-part, read-short    what a reader answers, where its bytes are all there and where they are not
--     number-16, number-32, number-64
--                              the number that bytes are
--     digits-16, digits-32, digits-64
--                              the bytes that a number is
--     one-byte                 the same of a byte alone
--     store-part               bytes copied into a part are stored
use Rattle.std.proofs.Common.{ℕ, zero, suc, ◌+◌, ◌-◌, ◌*◌, ◌<◌, ◌≤◌, ◌≡◌, ◌∙◌, List, append_assoc, length, take, drop, get_or, leb, true, arith, rules, refl, sym, ap}
use Rattle.std.specs.Int.{w16, w32, w64, from_be_bytes, to_be_bytes}
use Rattle.std.proofs.lemmas.List.{get_or-take, get_or-drop, get_or_default}
use native.Mathlib.Nat.{zero-add, add-zero, zero-mul}
use borrow.Author.Tests.{leb-true, ltb-true}
use borrow.Rule.Slice.PartMut.{put_mid}
use lib.Dec.{ltb}
use lib.Seq.{sets, sets-eq, drop-drop}
use Rattle.laws.specs.Number.{number, number_at, digits}
use Rattle.laws.specs.Room.{room, put}
use Rattle.laws.proofs.Room.{stored, true-room, false-room}

-- the bytes from a place, by themselves
number-part : (s : List ℕ) (at n k : ℕ) → k ≤ n → number (take n (drop at s)) 0 k ≡ number s at k
unfolding number
number-part s at n zero h = refl
number-part s at n (suc k) h =
    let part = take n (drop at s) in
    let e : get_or part (0 + k) 0 ≡ get_or s (at + k) 0 = ap (λ (j : ℕ). get_or part j 0) (zero-add k) ∙ get_or-take n (drop at s) k 0 (omega arith) ∙ get_or-drop at s k 0 in
    ap (λ (x : ℕ). x * 256 + get_or part (0 + k) 0) (number-part s at n k (omega arith)) ∙ ap (λ (x : ℕ). number s at k * 256 + x) e

pub read-part : (s b : List ℕ) (at n : ℕ) → at + n ≤ length s → b ≡ take n (drop at s) → number b 0 n ≡ number_at s at n
unfolding number_at
read-part s b at n h e = rw (true-room s at n h, e) (number-part s at n n (omega arith))

pub read-short : (s : List ℕ) (at n : ℕ) → length s < at + n → 0 ≡ number_at s at n
unfolding number_at
read-short s at n h = rw (false-room s at n h)

pub number-16 : (b : List ℕ) → from_be_bytes w16 b ≡ number b 0 2
unfolding number
number-16 b = omega arith

pub number-32 : (b : List ℕ) → from_be_bytes w32 b ≡ number b 0 4
unfolding number
number-32 b = omega arith

pub number-64 : (b : List ℕ) → from_be_bytes w64 b ≡ number b 0 8
unfolding number
number-64 b = omega arith

pub digits-16 : (x : ℕ) → to_be_bytes w16 x ≡ digits 2 x
unfolding digits
digits-16 x = search rules

pub digits-32 : (x : ℕ) → to_be_bytes w32 x ≡ digits 4 x
unfolding digits
digits-32 x = search rules

pub digits-64 : (x : ℕ) → to_be_bytes w64 x ≡ digits 8 x
unfolding digits
digits-64 x = search rules

pub store-part : (l m vs : List ℕ) (at n : ℕ) → length vs ≡ n → leb (at + n) (length l) ≡ true → m ≡ vs → (true ≡ room l at n) × (put_mid at (at + n - at) l m ≡ put l at vs)
store-part l m vs at n e h f =
    let b : at + n ≤ length l = leb-true (at + n) (length l) h in
    let g : drop (at + n - at) (drop at l) ≡ drop (at + length vs) l = drop-drop (at + n - at) at l ∙ ap (λ (k : ℕ). drop k l) (omega arith) in
    let p : put_mid at (at + n - at) l m ≡ sets l at vs = rw (f, g, ← append_assoc) (sym (sets-eq vs l at (omega arith))) in
    stored l at n vs _ e h p

pub one-byte : (s : List ℕ) (at b : ℕ) → true ≡ ltb at (length s) → b ≡ get_or s at b → b ≡ number_at s at 1
unfolding number_at number
one-byte s at b t e =
    let h : at < length s = ltb-true at (length s) (sym t) in
    rw (true-room s at 1 (omega arith), zero-mul, zero-add, add-zero) (e ∙ get_or_default s at b 0 h)
