-- Laws of the sequence number's two words.
--     words-value, value-words   from the words to the number and back
--     words-eqb, words-ltb       two numbers compared by their words
--     words-read, words-bytes    the words in 16 bytes
use Prim.Native.Nat.{ℕ, ◌+◌, ◌-◌, ◌*◌, ◌/◌, ◌%◌, ◌^◌, ◌<◌}
use mathlib.Core.Path.{◌≡◌, ap, ap₂, sym, ◌∙◌}
use mathlib.Core.List.{List, ◌++◌}
use mathlib.Core.Bool.{true, false, ◌&&◌, ◌||◌}
use native.Mathlib.Nat.{mod-lt, mod-eq_of_lt, div-add-mod', div-lt_iff_lt-mul}
use native.Mathlib.Omega.{arith}
use native.Mathlib.Decide.{dec_lt, ℕ_discrete}
use borrow.Author.Tests.{eq-eqb, ne_eqb, lt-ltb, le-ltb}
use lib.Arith.{digits_lt, digits_div, digits_mod}
use lib.Dec.{eqb, ltb, leb, lit<}
use lib.ListN.{length}
use Rattle.cesr_number.specs.Number.{number, digits}
use Rattle.cesr_number.proofs.Number.{number-split, digits-split, digits-rest, read_whole, read_none}
use Rattle.cesr_sn.specs.declared.Sn.{Sn}
use Rattle.cesr_sn.specs.Numbers.{value, sn_of, read_sn, sn_bytes}

-- both words are words
pub record Fit (n : Sn) : Type 0 where
  pub hi : n.hi < 2 ^ 64
  pub lo : n.lo < 2 ^ 64

pub made : {a b a' b' : ℕ} → a ≡ a' → b ≡ b' → ◌≡◌ {A = Sn} (record { hi = a; lo = b }) (record { hi = a'; lo = b' })
made p q = cc

-- the words of a number that is put together from words
pub words_of : (h l : ℕ) → h < 2 ^ 64 → l < 2 ^ 64 → sn_of (h * 2 ^ 64 + l) ≡ record { hi = h; lo = l }
unfolding sn_of
words_of h l p q = made (ap (λ (k : ℕ). k % 2 ^ 64) (digits_div h q) ∙ mod-eq_of_lt p) (digits_mod h q)

pub words-value : (n : Sn) → Fit n → sn_of (value n) ≡ n
unfolding value
words-value n f = words_of n.hi n.lo f.hi f.lo

pub value-words : (v : ℕ) → v < 2 ^ 128 → value (sn_of v) ≡ v
unfolding value sn_of
value-words v h =
    let d : v / 2 ^ 64 < 2 ^ 64 = (div-lt_iff_lt-mul (lit< tt)).1 h in
    rw (mod-eq_of_lt d) (div-add-mod' v (2 ^ 64))

-- two numbers are equal when both words are
pub words-eqb : (h l k m : ℕ) → l < 2 ^ 64 → m < 2 ^ 64 → (eqb h k && eqb l m) ≡ eqb (h * 2 ^ 64 + l) (k * 2 ^ 64 + m)
words-eqb h l k m p q =
    elim (ℕ_discrete h k) [
      | yes e ↦
          elim (ℕ_discrete l m) [
            | yes f ↦ rw (eq-eqb h k e, eq-eqb l m f) (sym (eq-eqb (h * 2 ^ 64 + l) (k * 2 ^ 64 + m) (rw (e, f))))
            | no f ↦ rw (eq-eqb h k e, ne_eqb l m f) (sym (ne_eqb (h * 2 ^ 64 + l) (k * 2 ^ 64 + m) (λ z. f (omega arith))))
          ]
      | no e ↦ rw (ne_eqb h k e) (sym (ne_eqb (h * 2 ^ 64 + l) (k * 2 ^ 64 + m) (λ z. e (omega arith))))
    ]

-- the upper words decide, and where they are equal the lower ones do
pub words-ltb : (h l k m : ℕ) → l < 2 ^ 64 → m < 2 ^ 64 → (ltb h k || (eqb h k && ltb l m)) ≡ ltb (h * 2 ^ 64 + l) (k * 2 ^ 64 + m)
words-ltb h l k m p q =
    elim (dec_lt h k) [
      | yes e ↦ rw (lt-ltb h k e) (sym (lt-ltb (h * 2 ^ 64 + l) (k * 2 ^ 64 + m) (omega arith)))
      | no e ↦
          elim (ℕ_discrete h k) [
            | yes f ↦
                elim (dec_lt l m) [
                  | yes g ↦ rw (le-ltb h k (omega arith), eq-eqb h k f, lt-ltb l m g) (sym (lt-ltb (h * 2 ^ 64 + l) (k * 2 ^ 64 + m) (omega arith)))
                  | no g ↦ rw (le-ltb h k (omega arith), eq-eqb h k f, le-ltb l m (omega arith)) (sym (le-ltb (h * 2 ^ 64 + l) (k * 2 ^ 64 + m) (omega arith)))
                ]
            | no f ↦ rw (le-ltb h k (omega arith), ne_eqb h k f) (sym (le-ltb (h * 2 ^ 64 + l) (k * 2 ^ 64 + m) (omega arith)))
          ]
    ]

-- the next number, in the lower word, with a carry, and round
pub next_low : (h l : ℕ) → h < 2 ^ 64 → l < 2 ^ 64 - 1 → record { hi = h; lo = l + 1 } ≡ sn_of (h * 2 ^ 64 + l + 1)
next_low h l p q = let e : h * 2 ^ 64 + l + 1 ≡ h * 2 ^ 64 + (l + 1) = omega arith in rw e (sym (words_of h (l + 1) p (omega arith)))

pub next-carry : (h l : ℕ) → h < 2 ^ 64 - 1 → l ≡ 2 ^ 64 - 1 → record { hi = h + 1; lo = 0 } ≡ sn_of (h * 2 ^ 64 + l + 1)
next-carry h l p q = let e : h * 2 ^ 64 + l + 1 ≡ (h + 1) * 2 ^ 64 + 0 = omega arith in rw e (sym (words_of (h + 1) 0 (omega arith) (omega arith)))

pub next-round : (h l : ℕ) → h ≡ 2 ^ 64 - 1 → l ≡ 2 ^ 64 - 1 → record { hi = 0; lo = 0 } ≡ sn_of (h * 2 ^ 64 + l + 1)
unfolding sn_of
next-round h l p q = rw (p, q)

-- the words in the 16 bytes from at
pub words-read : (s : List ℕ) (at : ℕ) → number s at 8 < 2 ^ 64 → number s (at + 8) 8 < 2 ^ 64 → leb (at + 16) (length s) ≡ true → record { hi = number s at 8; lo = number s (at + 8) 8 } ≡ read_sn s at
unfolding read_sn
words-read s at p q h =
    sym (ap sn_of (read_whole s at 16 h ∙ number-split s at 8 8) ∙ words_of (number s at 8) (number s (at + 8) 8) p q)

pub words-none : (s : List ℕ) (at : ℕ) → leb (at + 16) (length s) ≡ false → record { hi = 0; lo = 0 } ≡ read_sn s at
unfolding read_sn sn_of
words-none s at h = rw (read_none s at 16 h)

-- its bytes are those of the upper word, then those of the lower
pub words-bytes : (n : Sn) → n.lo < 2 ^ 64 → sn_bytes n ≡ digits 8 n.hi ++ digits 8 n.lo
unfolding sn_bytes value
words-bytes n p =
    let v = n.hi * 2 ^ 64 + n.lo in
    let r : digits 8 v ≡ digits 8 n.lo = sym (digits-rest 8 v) ∙ ap (digits 8) (digits_mod n.hi p) in
    digits-split 8 8 v ∙ ap₂ (λ (a b : List ℕ). a ++ b) (ap (digits 8) (digits_div n.hi p)) r

-- the words of any number are words
pub sn_of-good : (v : ℕ) → (ltb (sn_of v).hi (2 ^ 64) && ltb (sn_of v).lo (2 ^ 64)) ≡ true
unfolding sn_of
sn_of-good v = rw (lt-ltb (v / 2 ^ 64 % 2 ^ 64) (2 ^ 64) (mod-lt (v / 2 ^ 64) (lit< tt)), lt-ltb (v % 2 ^ 64) (2 ^ 64) (mod-lt v (lit< tt)))

pub value-fits : (n : Sn) → n.hi < 2 ^ 64 → n.lo < 2 ^ 64 → value n < 256 ^ 16
unfolding value
value-fits n p q = digits_lt p q
