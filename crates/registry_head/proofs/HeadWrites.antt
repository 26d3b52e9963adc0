-- Laws of the bytes of a credential state.
--     length-sn, length-head     how many bytes there are
--     head-sets                  its parts, one behind the other
use Prim.Native.Nat.{ℕ, ◌+◌, ◌≤◌}
use mathlib.Core.Path.{◌≡◌, sym, ◌∙◌}
use mathlib.Core.List.{List, ◌++◌, append_assoc}
use native.Mathlib.Omega.{arith}
use lib.ListN.{length, length-append}
use lib.Seq.{sets, length-sets}
use Rattle.laws.specs.Room.{put}
use Rattle.laws.proofs.Number.{length_digits}
use Rattle.laws.proofs.Room.{put-sets, sets-append}
use Rattle.cesr_sn.specs.declared.Sn.{Sn}
use Rattle.cesr.specs.declared.Matter.{Matter}
use Rattle.cesr_sn.specs.Numbers.{value, sn_bytes}
use Rattle.cesr.specs.Primitives.{matter_bytes}
use Rattle.cesr.proofs.Matters.{length-matter}
use Rattle.registry_head.specs.HeadBytes.{head_bytes}

pub length-sn : (n : Sn) → length (sn_bytes n) ≡ 16
unfolding sn_bytes
length-sn n = length_digits 16 (value n)

pub length-head : (a b : Matter) (n : Sn) (d : Matter) → length (head_bytes a b n d) ≡ 115
unfolding head_bytes
length-head a b n d = simp (length-append, length-matter, length-sn)

-- one more run behind a run that was stored
stored_more : (l : List ℕ) (at n m : ℕ) (vs ws : List ℕ) → length vs ≡ n → length ws ≡ m → at + n + m ≤ length l → put (sets l at vs) (at + n) ws ≡ sets l at (vs ++ ws)
stored_more l at n m vs ws e f h = put-sets (sets l at vs) (at + n) m ws f (rw length-sets h) ∙ sym (rw (sets-append, e))

pub head-sets : (l : List ℕ) (at : ℕ) (a b : Matter) (n : Sn) (d : Matter) → at + 115 ≤ length l → put (put (put (put l at (matter_bytes a)) (at + 33) (matter_bytes b)) (at + 66) (sn_bytes n)) (at + 82) (matter_bytes d) ≡ sets l at (head_bytes a b n d)
unfolding head_bytes
head-sets l at a b n d h =
    let x = matter_bytes a in
    let y = matter_bytes b in
    let z = sn_bytes n in
    let w = matter_bytes d in
    let two : length (x ++ y) ≡ 66 = rw (length-append, length-matter, length-matter) in
    let three : length ((x ++ y) ++ z) ≡ 82 = rw (length-append, two, length-sn) in
    let p : put l at x ≡ sets l at x = put-sets l at 33 x (length-matter a) (omega arith) in
    rw (p, stored_more l at 33 33 x y (length-matter a) (length-matter b) (omega arith), stored_more l at 66 16 (x ++ y) z two (length-sn n) (omega arith), stored_more l at 82 33 ((x ++ y) ++ z) w three (length-matter d) (omega arith))
    (simp append_assoc)
