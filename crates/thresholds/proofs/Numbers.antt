-- A number, read digit by digit.
--     number_step     a number and one more digit behind it
--     number_stays    where the first i bytes say no number, no more of them do
use Rattle.std.proofs.Common.{◌≡◌, ℕ, zero, suc, inl, inr, ◌+◌, ◌*◌, ◌-◌, ◌^◌, ◌≤◌, Bool, true, false, cond, ◌&&◌, List, get_or, refl, Some, None, add-one, arith}
use Rattle.std.proofs.lemmas.Bool.{cases_lt}
use borrow.Author.Tests.{le-ltb, ltb-false}
use lib.Dec.{ltb}
use Rattle.thresholds.specs.Texts.{is_digit, all_digits, value_of, number_to, with_digit}

more : (n v b : ℕ) (d l : Bool) → ltb v (2 ^ 64) ≡ l → Some n ≡ cond (d && l) (Some v) None → with_digit n b ≡ cond ((d && is_digit b) && ltb (v * 10 + (b - 48)) (2 ^ 64)) (Some (v * 10 + (b - 48))) None
unfolding with_digit
more n v b true true e h = let same : n ≡ v = cc in rw same
more n v b true false e h = cc
more n v b false l e h = cc

pub number_step : (s : List ℕ) (i n : ℕ) → Some n ≡ number_to s i → with_digit n (get_or s i 0) ≡ number_to s (i + 1)
unfolding number_to all_digits value_of
number_step s i n h = rw add-one (more n (value_of s i) (get_or s i 0) (all_digits s i) (ltb (value_of s i) (2 ^ 64)) refl h)

none_more : (v b : ℕ) (d g l : Bool) → ltb v (2 ^ 64) ≡ l → None ≡ cond (d && l) (Some v) None → None ≡ cond ((d && g) && ltb (v * 10 + b) (2 ^ 64)) (Some (v * 10 + b)) None
none_more v b true g true e h = cc
none_more v b true true false e h = rw (le-ltb (v * 10 + b) (2 ^ 64) (omega (arith, ltb-false v (2 ^ 64) e)))
none_more v b true false false e h = refl
none_more v b false g l e h = refl

pub number_stays : (s : List ℕ) (i j : ℕ) → None ≡ number_to s i → i ≤ j → None ≡ number_to s j
unfolding number_to all_digits value_of
number_stays s i zero h l = let e : i ≡ 0 = omega arith in rw e at h
number_stays s i (suc j) h l =
    elim (cases_lt j i) [
      | inl k ↦ let e : i ≡ suc j = omega arith in rw e at h
      | inr k ↦ none_more (value_of s j) (get_or s j 0 - 48) (all_digits s j) (is_digit (get_or s j 0)) (ltb (value_of s j) (2 ^ 64)) refl (number_stays s i j h k)
    ]
