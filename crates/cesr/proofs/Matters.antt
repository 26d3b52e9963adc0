-- Laws of primitives.
--     eq-fields, differ, agree `==` and `!=` as the test
--     words-there              the words of a primitive that is there
--     length-matter            it has 33 bytes
--     matter-apart             primitives that differ in the first word
--     eq-matter, matter-eq     equality as a test, and as a path
--     eq-said, said-eq, eq-prefix, prefix-eq   the same in either role
use Prim.Native.Nat.{ℕ, ◌+◌, ◌<◌}
use mathlib.Core.Path.{◌≡◌, refl, sym, ap, ◌∙◌}
use mathlib.Core.List.{List}
use mathlib.Core.Bool.{Bool, true, false, not, ◌&&◌}
use native.Mathlib.Nat.{mod-eq_of_lt}
use native.Mathlib.Omega.{arith}
use borrow.Author.Tests.{eq-eqb, ne_eqb, eqb-true, leb-true, not-true, not-false}
use lib.Dec.{leb, eqb}
use lib.ListN.{length, length-append}
use Rattle.cesr_number.specs.Number.{number, number_at}
use Rattle.cesr_number.specs.Room.{room}
use Rattle.cesr_number.proofs.Number.{length_digits, whole-number}
use Rattle.cesr_number.proofs.Tests.{and_left, and_right}
use Rattle.cesr.specs.declared.Matter.{Matter}
use Rattle.cesr.specs.contracts.MatterPartialEq.TheImpl.{eq-value}
use Rattle.cesr.specs.declared.Said.{Said}
use Rattle.cesr.specs.declared.BasicPrefix.{BasicPrefix}
use Rattle.cesr.specs.Primitives.{none, word_bytes, matter_bytes, read_matter, eq_matter, eq_said, eq_prefix}

pub made : {a b c d e a' b' c' d' e' : ℕ} → a ≡ a' → b ≡ b' → c ≡ c' → d ≡ d' → e ≡ e' → ◌≡◌ {A = Matter} (record { code = a; w0 = b; w1 = c; w2 = d; w3 = e }) (record { code = a'; w0 = b'; w1 = c'; w2 = d'; w3 = e' })
made p q r s t = cc

-- `==` compares the letter and the four words in their order, and `!=` is its contrary
pub eq-fields : (a b : Matter) → eq-value.it a b ≡ eq_matter a b
unfolding eq_matter
eq-fields a b = refl

pub differ : (a b : Matter) → true ≡ not (eq-value.it a b) → eq_matter a b ≡ false
unfolding eq_matter
differ a b h = not-true (eq_matter a b) (sym h)

pub agree : (a b : Matter) → false ≡ not (eq-value.it a b) → eq_matter a b ≡ true
unfolding eq_matter
agree a b h = not-false (eq_matter a b) (sym h)

pub length-matter : (m : Matter) → length (matter_bytes m) ≡ 33
unfolding matter_bytes
length-matter m = simp (length-append, length_digits)

-- primitives that differ in the first word differ
pub matter-apart : (a b : Matter) → (a.w0 ≡ b.w0 → ⊥) → eq_matter a b ≡ false
unfolding eq_matter
matter-apart a b h = rw (ne_eqb a.w0 b.w0 h) (go (eqb a.code b.code))
  where
    go : (t : Bool) → (t && (false && (eqb a.w1 b.w1 && (eqb a.w2 b.w2 && eqb a.w3 b.w3)))) ≡ false
    go true = refl
    go false = refl

-- the words of a primitive that is there, each of which is read by itself
pub record Words (s : List ℕ) (at : ℕ) : Type 0 where
  pub w0 : number_at s (at + 1) 8 ≡ number s (at + 1) 8
  pub w1 : number_at s (at + 9) 8 ≡ number s (at + 9) 8
  pub w2 : number_at s (at + 17) 8 ≡ number s (at + 17) 8
  pub w3 : number_at s (at + 25) 8 ≡ number s (at + 25) 8

pub words-there : (s : List ℕ) (at : ℕ) → leb (at + 33) (length s) ≡ true → Words s at
words-there s at h =
    let k = leb-true (at + 33) (length s) h in
    record { w0 = whole-number s (at + 1) 8 (omega (arith, k)); w1 = whole-number s (at + 9) 8 (omega (arith, k)); w2 = whole-number s (at + 17) 8 (omega (arith, k)); w3 = whole-number s (at + 25) 8 (omega (arith, k)) }

-- what a reader that tests for room answers
pub matter-whole : (s : List ℕ) (at : ℕ) (m : Matter) → leb (at + 33) (length s) ≡ true → m ≡ record { code = lib.ListN.get_or s at 0; w0 = number_at s (at + 1) 8; w1 = number_at s (at + 9) 8; w2 = number_at s (at + 17) 8; w3 = number_at s (at + 25) 8 } → m ≡ read_matter s at
unfolding read_matter room
matter-whole s at m h e =
    let w = words-there s at h in
    e ∙ rw (h, w.w0, w.w1, w.w2, w.w3)

pub matter-none : (s : List ℕ) (at : ℕ) → leb (at + 33) (length s) ≡ false → none ≡ read_matter s at
unfolding read_matter room
matter-none s at h = rw h

-- the bytes of a primitive that is there are those that it is read from
pub matter-copied : (s : List ℕ) (at : ℕ) → leb (at + 33) (length s) ≡ true → lib.ListN.get_or s at 0 < 256 → matter_bytes (read_matter s at) ≡ word_bytes (lib.ListN.get_or s at 0) (number_at s (at + 1) 8) (number_at s (at + 9) 8) (number_at s (at + 17) 8) (number_at s (at + 25) 8)
unfolding matter_bytes read_matter room
matter-copied s at h p =
    let w = words-there s at h in
    rw (h, mod-eq_of_lt p, w.w0, w.w1, w.w2, w.w3)

-- and it is compared by them
pub same_whole : (m : Matter) (s : List ℕ) (at : ℕ) → leb (at + 33) (length s) ≡ true → (eqb (lib.ListN.get_or s at 0) m.code && (eqb (number_at s (at + 1) 8) m.w0 && (eqb (number_at s (at + 9) 8) m.w1 && (eqb (number_at s (at + 17) 8) m.w2 && eqb (number_at s (at + 25) 8) m.w3)))) ≡ eq_matter (read_matter s at) m
unfolding eq_matter read_matter room
same_whole m s at h =
    let w = words-there s at h in
    rw (h, w.w0, w.w1, w.w2, w.w3)

pub apart-whole : (m : Matter) (s : List ℕ) (at : ℕ) → leb (at + 33) (length s) ≡ true → (number_at s (at + 1) 8 ≡ m.w0 → ⊥) → false ≡ eq_matter (read_matter s at) m
unfolding read_matter room
apart-whole m s at h k =
    rw h (sym (matter-apart (record { code = lib.ListN.get_or s at 0; w0 = number s (at + 1) 8; w1 = number s (at + 9) 8; w2 = number s (at + 17) 8; w3 = number s (at + 25) 8 }) m (λ e. k ((words-there s at h).w0 ∙ e))))

-- the test is true of equal primitives alone
pub matter-eq : (a b : Matter) → eq_matter a b ≡ true → a ≡ b
unfolding eq_matter
matter-eq a b h =
    let t0 = eqb a.code b.code in
    let t1 = eqb a.w0 b.w0 in
    let t2 = eqb a.w1 b.w1 in
    let t3 = eqb a.w2 b.w2 in
    let t4 = eqb a.w3 b.w3 in
    let h1 = and_right t0 (t1 && (t2 && (t3 && t4))) h in
    let h2 = and_right t1 (t2 && (t3 && t4)) h1 in
    let h3 = and_right t2 (t3 && t4) h2 in
    made (eqb-true a.code b.code (and_left t0 (t1 && (t2 && (t3 && t4))) h)) (eqb-true a.w0 b.w0 (and_left t1 (t2 && (t3 && t4)) h1)) (eqb-true a.w1 b.w1 (and_left t2 (t3 && t4) h2)) (eqb-true a.w2 b.w2 (and_left t3 t4 h3)) (eqb-true a.w3 b.w3 (and_right t3 t4 h3))

pub eq-matter : (a : Matter) → eq_matter a a ≡ true
unfolding eq_matter
eq-matter a = rw (eq-eqb a.code a.code refl, eq-eqb a.w0 a.w0 refl, eq-eqb a.w1 a.w1 refl, eq-eqb a.w2 a.w2 refl, eq-eqb a.w3 a.w3 refl)

pub eq-said : (a : Said) → eq_said a a ≡ true
eq-said a = eq-matter a.0

pub said-eq : (a b : Said) → eq_said a b ≡ true → a ≡ b
said-eq a b e = ap (λ (m : Matter). record { 0 = m }) (matter-eq a.0 b.0 e)

pub eq-prefix : (a : BasicPrefix) → eq_prefix a a ≡ true
eq-prefix a = eq-matter a.0

pub prefix-eq : (a b : BasicPrefix) → eq_prefix a b ≡ true → a ≡ b
prefix-eq a b e = ap (λ (m : Matter). record { 0 = m }) (matter-eq a.0 b.0 e)
