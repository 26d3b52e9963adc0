-- What a line says of a call, and whether the call gives it.
use Rattle.std.specs.Prelude.{ℕ, List, [], ◌∷◌, Bool, true, false, cond, ◌&&◌, ◌||◌, eqb, leb, is_some, Option, Some, None, Result, Ok, Err}
use Rattle.std.specs.Str.{bytes_eq}
use Rattle.events_toad.specs.declared.Toad.{Toad}
use Rattle.events_toad.specs.declared.ToadError.{ToadError}
use Rattle.events_toad.specs.Toads.{toad_number, exact_of, ample_of}
use Rattle.thresholds.specs.declared.Verdict.{Verdict}
use Rattle.thresholds.specs.declared.Verdict.TheVariants.{Exact, Ample, Unread}
use Rattle.thresholds.specs.Texts.{head_of, rest_of, number_of}

-- after `exact`: a threshold of 32 bits, a count, and the refusal's number
abbrev pub judge_exact : Option ℕ → Option ℕ → Option ℕ → Verdict
judge_exact (Some toad) (Some count) (Some answer) =
    cond (leb toad 4294967295) (Exact (eqb (toad_number (exact_of toad count)) answer)) Unread
judge_exact toad count answer = Unread

-- whether a result's threshold is the one that was read, or both have none
abbrev pub same_toad : Result Toad ToadError → Option ℕ → Bool
same_toad (Ok t) (Some n) = eqb t.0 n
same_toad (Ok t) None = false
same_toad (Err e) (Some n) = false
same_toad (Err e) None = true

-- after `ample`: a count, the refusal's number, and the threshold or `-`
abbrev pub judge_ample : Option ℕ → Option ℕ → Option ℕ → Bool → Verdict
judge_ample (Some count) (Some answer) toad dash =
    cond (is_some toad || dash)
    (Ample (eqb (toad_number (ample_of count)) answer && same_toad (ample_of count) toad))
    Unread
judge_ample count answer toad dash = Unread

-- the words `exact` and `ample`, and the sign `-`
abbrev pub exact_word : List ℕ
exact_word = 101 ∷ 120 ∷ 97 ∷ 99 ∷ 116 ∷ []

abbrev pub ample_word : List ℕ
ample_word = 97 ∷ 109 ∷ 112 ∷ 108 ∷ 101 ∷ []

abbrev pub dash_sign : List ℕ
dash_sign = 45 ∷ []

-- words stand one space apart, and the last goes to the line's end
unfoldable pub judge_of : List ℕ → Verdict
judge_of l =
    let r1 = rest_of 32 l in
    let r2 = rest_of 32 r1 in
    let r3 = rest_of 32 r2 in
    let a = number_of (head_of 32 r1) in
    let b = number_of (head_of 32 r2) in
    let c = number_of r3 in
    cond (bytes_eq (head_of 32 l) exact_word) (judge_exact a b c)
    (cond (bytes_eq (head_of 32 l) ample_word) (judge_ample a b c (bytes_eq r3 dash_sign)) Unread)
