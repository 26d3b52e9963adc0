-- Laws of the bytes of a report.
--     report-put   its marks and its two values, stored one behind the other in 36 bytes, are the report
--     length-report, length-answer   a report has 36 bytes
use Prim.Native.Nat.{ℕ, ◌+◌}
use mathlib.Core.Path.{◌≡◌, refl, sym, ◌∙◌}
use mathlib.Core.List.{List, [], ◌∷◌, ◌++◌, append-nil}
use native.Mathlib.Omega.{arith}
use lib.ListN.{length, get_or, length-append, drop_of_length-le}
use lib.Seq.{sets, sets-eq}
use Rattle.laws.specs.Number.{digits}
use Rattle.laws.specs.Room.{put}
use Rattle.laws.proofs.Number.{length_digits}
use Rattle.laws.proofs.Room.{put-sets, put-append}
use Rattle.cesr_sn.specs.declared.Sn.{Sn}
use Rattle.cesr_sn.specs.Numbers.{value, sn_bytes}
use Rattle.registry_error.specs.Errors.{Answer}
use Rattle.std.proofs.Common.{Ok, Err}
use Rattle.host_report.specs.Reports.{report_bytes, report_with}

-- a run as long as the list stands in its place
whole : (l vs : List ℕ) → length vs ≡ length l → sets l 0 vs ≡ vs
whole l vs e = sets-eq vs l 0 (omega arith) ∙ rw (drop_of_length-le l {i = 0 + length vs} (omega arith)) (append-nil vs)

pub report-put : (l values : List ℕ) (number letter awaited count : ℕ) (a b : Sn) → length l ≡ 36 → count ≡ length values → value a ≡ get_or values 0 0 → value b ≡ get_or values 1 0 → put (put (sets l 0 (number ∷ letter ∷ awaited ∷ count ∷ [])) 4 (sn_bytes a)) 20 (sn_bytes b) ≡ report_bytes number letter awaited values
unfolding report_bytes sn_bytes
report-put l values number letter awaited count a b h e f g =
    let marks = number ∷ letter ∷ awaited ∷ count ∷ [] in
    let p : sets l 0 marks ≡ put l 0 marks = sym (put-sets l 0 4 marks refl (omega arith)) in
    let q = put-append l 0 4 16 marks (digits 16 (value a)) refl (length_digits 16 (value a)) (omega arith) in
    let n : length (marks ++ digits 16 (value a)) ≡ 20 = rw (length-append, length_digits) in
    let r = put-append l 0 20 16 (marks ++ digits 16 (value a)) (digits 16 (value b)) n (length_digits 16 (value b)) (omega arith) in
    let m : length ((marks ++ digits 16 (value a)) ++ digits 16 (value b)) ≡ 36 = rw (length-append, n, length_digits) in
    rw (p, q, r, put-sets l 0 36 _ m (omega arith), whole l _ (m ∙ sym h), e, f, g)

pub length-report : (number letter awaited : ℕ) (values : List ℕ) → length (report_bytes number letter awaited values) ≡ 36
unfolding report_bytes
length-report number letter awaited values = simp (length-append, length_digits)

pub length-answer : (a : Answer) (values : List ℕ) → length (report_with a values) ≡ 36
length-answer (Ok u) values = length-report _ _ _ _
length-answer (Err r) values = length-report _ _ _ _
