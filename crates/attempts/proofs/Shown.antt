-- What is printed from a buffer that a line was written to.
--     shown          the bytes that the writer counts are the line, where it fits
--     last-fits      the last line fits in 80 bytes
use Rattle.std.proofs.Common.{◌≡◌, ℕ, ◌+◌, ◌^◌, ◌<◌, ◌≤◌, List, ◌++◌, Bool, true, false, cond, length, take, drop, refl, arith}
use Rattle.std.proofs.Math.Seq.{sets, sets-eq, take-append_seam}
use Rattle.laws.specs.Room.{put}
use Rattle.laws.proofs.Room.{put-sets, true-room}
use Rattle.ledger_text.specs.Lines.{last_line, broken_line, size_in}
use Rattle.ledger_text.proofs.LineLaws.{last_fits}

pub shown : (before after line : List ℕ) (n : ℕ) → length line ≤ length before → n ≡ size_in before line → after ≡ put before 0 line → take n after ≡ line
unfolding size_in
shown before after line n h e f =
    let p : put before 0 line ≡ sets before 0 line = put-sets before 0 (length line) line refl (omega arith) in
    let q : sets before 0 line ≡ take 0 before ++ line ++ drop (0 + length line) before = sets-eq line before 0 (omega arith) in
    rw (f, e, true-room before 0 (length line) (omega arith), p, q) (take-append_seam line (drop (0 + length line) before))

pub last-fits : (broken : Bool) (registries credentials : ℕ) → registries < 2 ^ 64 → credentials < 2 ^ 64 → length (cond broken broken_line (last_line registries credentials)) ≤ 80
unfolding broken_line
last-fits true registries credentials h g = omega arith
last-fits false registries credentials h g = omega (arith, last_fits registries credentials h g)
