-- The marks after the first i rows, and what they save: a row whose bit is not set has a credential that no row before it has.
--     marks_of      the marks after the first i rows
--     all-met      the bit of each of these rows is set
--     same_test    the search among the rows that are to be searched says what the search among all i rows says
use Prim.Native.Nat.{ℕ, zero, suc, ◌+◌, ◌*◌, ◌/◌, ◌%◌, ◌≤◌, ◌<◌, min, max}
use native.Mathlib.Nat.{le_trans, min-le_left, min_comm, min-eq_left, le-max_left, le-max_right, div-add-mod'}
use native.Mathlib.Omega.{arith}
use mathlib.Core.Path.{◌≡◌, refl, sym, ap, ap₂, ◌∙◌, subst}
use mathlib.Core.Bool.{Bool, true, false, cond}
use mathlib.Core.List.{List}
use borrow.Author.Tests.{eqb-true, eqb-false, le-leb}
use lib.Arith.{bin_ind, digits_div, digits_mod}
use lib.Bits.{bit_and, bit_or, and_step, or_step, and_self, and_zero_l, and_zero_r}
use lib.Dec.{eqb, leb, leb-zero}
use lib.ListN.{length, get_or, set, take, length-set}
use lib.Seq.{get_or-set_same, get_or-set_other, get_or-take, length-take-le}
use Rattle.laws.proofs.First.{first-none}
use Rattle.cesr.specs.declared.Said.{Said}
use Rattle.registry_state_credential.specs.CredentialStates.{no_credential}
use Rattle.registry_state_credential.specs.declared.CredentialState.{CredentialState}
use Rattle.ledger_step.specs.Pairs.{Pair, key_of}
use Rattle.ledger_step.specs.Ledgers.{eq_pair}
use Rattle.ledger_step.specs.Tables.{place}
use Rattle.ledger_step.proofs.Rules.{pair-test}
use Rattle.ledger_row_rules.specs.Marking.{word_of, bit_of, no_marks, marking, to_search}
use Rattle.ledger_row_rules.specs.declared.marks.Marks.{Marks}

-- the row at a place, and the place where a search for a key ends among the first n rows
abbrev row_at : List CredentialState → ℕ → CredentialState
row_at l i = get_or l i no_credential

abbrev find_at : List CredentialState → ℕ → Said → Said → ℕ
find_at l n registry credential = place key_of eq_pair no_credential (record { registry = registry; credential = credential }) (take n l)

-- ---- bits that are set stay set
small : (x : ℕ) → x % 2 < 2
small x = omega arith

min-small : (x y : ℕ) → min (x % 2) (y % 2) < 2
min-small x y = omega (arith, small x, small y, min-le_left (x % 2) (y % 2))

max-small : (x y : ℕ) → max (x % 2) (y % 2) < 2
max-small x y = omega (arith, small x, small y)

module _ (a b : ℕ) where
  and-half : bit_and a b / 2 ≡ bit_and (a / 2) (b / 2)
  and-half = ap (λ (x : ℕ). x / 2) (and_step a b) ∙ digits_div (bit_and (a / 2) (b / 2)) (min-small a b)

  and-odd : bit_and a b % 2 ≡ min (a % 2) (b % 2)
  and-odd = ap (λ (x : ℕ). x % 2) (and_step a b) ∙ digits_mod (bit_and (a / 2) (b / 2)) (min-small a b)

  or-half : bit_or a b / 2 ≡ bit_or (a / 2) (b / 2)
  or-half = ap (λ (x : ℕ). x / 2) (or_step a b) ∙ digits_div (bit_or (a / 2) (b / 2)) (max-small a b)

  or-odd : bit_or a b % 2 ≡ max (a % 2) (b % 2)
  or-odd = ap (λ (x : ℕ). x % 2) (or_step a b) ∙ digits_mod (bit_or (a / 2) (b / 2)) (max-small a b)

-- what is below one of two numbers is below the greater
below_more : (x y z : ℕ) → z ≤ max x y → min (max x y) z ≡ z
below_more x y z l = min_comm (max x y) z ∙ min-eq_left l

digits_of : (a b c : ℕ) → bit_and (bit_or (a / 2) (b / 2)) (c / 2) ≡ c / 2 → c % 2 ≤ max (a % 2) (b % 2) → bit_and (bit_or a b) c ≡ c
digits_of a b c h l =
    and_step (bit_or a b) c
    ∙ ap₂ (λ (x y : ℕ). bit_and x (c / 2) * 2 + min y (c % 2)) (or-half a b) (or-odd a b)
    ∙ ap₂ (λ (x y : ℕ). x * 2 + y) h (below_more (a % 2) (b % 2) (c % 2) l)
    ∙ div-add-mod' c 2

or-has : (a b : ℕ) → bit_and (bit_or a b) b ≡ b
or-has = bin_ind (λ (n : ℕ). (b : ℕ) → bit_and (bit_or n b) b ≡ b) (λ b. and_self b) (λ n ih b. digits_of n b b (ih (b / 2)) (le-max_right (n % 2) (b % 2)))

or-keeps : (a b c : ℕ) → bit_and a c ≡ c → bit_and (bit_or a b) c ≡ c
or-keeps = bin_ind (λ (n : ℕ). (b c : ℕ) → bit_and n c ≡ c → bit_and (bit_or n b) c ≡ c)
    (λ b c h. subst (λ (x : ℕ). bit_and b x ≡ x) (sym (and_zero_l c) ∙ h) (and_zero_r b))
    (λ n ih b c h. digits_of n b c (ih (b / 2) (c / 2) (sym (and-half n c) ∙ ap (λ (x : ℕ). x / 2) h))
    (le_trans (subst (λ (x : ℕ). x ≤ n % 2) (sym (and-odd n c) ∙ ap (λ (x : ℕ). x % 2) h) (min-le_left (n % 2) (c % 2))) (le-max_left (n % 2) (b % 2))))

-- ---- the marks
abbrev Met : Marks → Said → Type 0
Met m c = bit_and (get_or m.seen (word_of c) 0) (bit_of c) ≡ bit_of c

within : (c : Said) → word_of c < 16
within c = omega arith

marks-itself : (m : Marks) (c : Said) → length m.seen ≡ 16 → Met (marking m c) c
unfolding marking
marks-itself m c e =
    let word = get_or m.seen (word_of c) 0 in
    let l : word_of c < length m.seen = subst (λ (x : ℕ). word_of c < x) (sym e) (within c) in
    ap (λ (x : ℕ). bit_and x (bit_of c)) (get_or-set_same m.seen (word_of c) (bit_or word (bit_of c)) 0 l) ∙ or-has word (bit_of c)

marks-more : (m : Marks) (c d : Said) → length m.seen ≡ 16 → Met m d → Met (marking m c) d
unfolding marking
marks-more m c d e h = go (eqb (word_of d) (word_of c)) refl
  where
    go : (t : Bool) → eqb (word_of d) (word_of c) ≡ t → bit_and (get_or (set m.seen (word_of c) (bit_or (get_or m.seen (word_of c) 0) (bit_of c))) (word_of d) 0) (bit_of d) ≡ bit_of d
    go true q =
        let same : word_of d ≡ word_of c = eqb-true (word_of d) (word_of c) q in
        let word = get_or m.seen (word_of c) 0 in
        let l : word_of c < length m.seen = subst (λ (x : ℕ). word_of c < x) (sym e) (within c) in
        ap (λ (x : ℕ). bit_and (get_or (set m.seen (word_of c) (bit_or word (bit_of c))) x 0) (bit_of d)) same
        ∙ ap (λ (x : ℕ). bit_and x (bit_of d)) (get_or-set_same m.seen (word_of c) (bit_or word (bit_of c)) 0 l)
        ∙ or-keeps word (bit_of c) (bit_of d) (subst (λ (x : ℕ). bit_and (get_or m.seen x 0) (bit_of d) ≡ bit_of d) same h)
    go false q = ap (λ (x : ℕ). bit_and x (bit_of d)) (get_or-set_other m.seen (word_of c) (word_of d) (bit_or (get_or m.seen (word_of c) 0) (bit_of c)) 0 (eqb-false (word_of d) (word_of c) q)) ∙ h

module _ (l : List CredentialState) where
  abbrev pub marks_of : ℕ → Marks
  marks_of zero = no_marks
  marks_of (suc i) = marking (marks_of i) (row_at l i).credential

  sixteen : (i : ℕ) → length (marks_of i).seen ≡ 16
  unfolding no_marks marking
  sixteen zero = refl
  sixteen (suc i) = length-set (marks_of i).seen (word_of (row_at l i).credential) _ ∙ sixteen i

  all-met : (i k : ℕ) → k < i → Met (marks_of i) (row_at l k).credential
  all-met zero k b = absurd (omega arith)
  all-met (suc i) k b = go (λ u. all-met i k u) (eqb k i) refl
    where
      go : (k < i → Met (marks_of i) (row_at l k).credential) → (t : Bool) → eqb k i ≡ t → Met (marking (marks_of i) (row_at l i).credential) (row_at l k).credential
      go h true e = subst (λ (x : ℕ). Met (marking (marks_of i) (row_at l i).credential) (row_at l x).credential) (sym (eqb-true k i e)) (marks-itself (marks_of i) (row_at l i).credential (sixteen i))
      go h false e = marks-more (marks_of i) (row_at l i).credential (row_at l k).credential (sixteen i) (h (omega (arith, eqb-false k i e)))

  -- a credential whose bit is not set is in no row
  not_there : (i : ℕ) (r c : Said) → i ≤ length l → (Met (marks_of i) c → ⊥) → find_at l i r c ≡ i
  unfolding place
  not_there i r c b h =
      let e : length (take i l) ≡ i = length-take-le i l b in
      first-none (λ k. eq_pair (key_of (get_or (take i l) k no_credential)) (record { registry = r; credential = c })) (length (take i l)) (λ k u. go k (subst (λ (x : ℕ). k < x) e u) (eq_pair (key_of (get_or (take i l) k no_credential)) (record { registry = r; credential = c })) refl) ∙ e
    where
      go : (k : ℕ) → k < i → (t : Bool) → eq_pair (key_of (get_or (take i l) k no_credential)) (record { registry = r; credential = c }) ≡ t → t ≡ false
      go k u false q = refl
      go k u true q =
          let p : key_of (row_at l k) ≡ record { registry = r; credential = c } = ap key_of (sym (get_or-take i l k no_credential u)) ∙ pair-test.equal (key_of (get_or (take i l) k no_credential)) (record { registry = r; credential = c }) q in
          absurd (h (subst (λ (x : Pair). Met (marks_of i) x.credential) p (all-met i k u)))

  -- the test of the row's bit
  abbrev is_met : ℕ → Said → Bool
  is_met i c = eqb (bit_and (get_or (marks_of i).seen (word_of c) 0) (bit_of c)) (bit_of c)

  by_bit : (i : ℕ) (r c : Said) → i ≤ length l → (t : Bool) → is_met i c ≡ t → leb (cond t i 0) (find_at l (cond t i 0) r c) ≡ leb i (find_at l i r c)
  by_bit i r c b true e = refl
  by_bit i r c b false e =
      let none : find_at l i r c ≡ i = not_there i r c b (eqb-false (bit_and (get_or (marks_of i).seen (word_of c) 0) (bit_of c)) (bit_of c) e) in
      leb-zero (find_at l 0 r c) ∙ sym (le-leb i (find_at l i r c) (omega (arith, none)))

  pub same_test : (i : ℕ) → i ≤ length l → (w : CredentialState) → w ≡ row_at l i → leb (to_search (marks_of i) w.credential i) (find_at l (to_search (marks_of i) w.credential i) w.registry w.credential) ≡ leb i (find_at l i w.registry w.credential)
  unfolding to_search
  same_test i b w e = by_bit i w.registry w.credential b (is_met i w.credential) refl
