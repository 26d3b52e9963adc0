-- What a read puts behind the bytes that stand there already is what it took from the input.
use Rattle.std.proofs.Common.{◌≡◌, ◌+◌, ◌-◌, ◌≤◌, ℕ, List, ◌++◌, rules, length, take, drop, sym, ap, ◌∙◌, subst, le_refl, drop_at, length-take-le}
use Rattle.std.proofs.lemmas.Slice.{take-put_mid_below}
use Rattle.std.proofs.KnownBytes.{Consumes-trans}
use Rattle.std.specs.Io.KnownBytes.{Consumes}
use borrow.Rule.Slice.PartMut.{put_mid, post_of}
use lib.Seq.{take-add, take-append-le}
use Rattle.reading.proofs.read_full.Goals as goal

-- the front of a buffer, and behind it the front of what was put there
take-put_mid : (a n : ℕ) (xs ys : List ℕ) → a ≤ length xs → n ≤ length ys → take a xs ++ take n ys ≡ take (a + n) (put_mid a (length xs - a) xs ys)
take-put_mid a n xs ys within fits =
    let k = length xs - a in
    let all = put_mid a k xs ys in
    let after = post_of a k xs in
    let front : take a all ≡ take a xs = take-put_mid_below _ _ _ _ _ (le_refl _) within in
    let back : take n (drop a all) ≡ take n ys =
    ap (take n) (drop_at (take a xs) (ys ++ after) a (length-take-le a xs within)) ∙ take-append-le n ys after fits in
    ap (λ l. l ++ take n ys) (sym front) ∙ ap (λ l. take a all ++ l) (sym back) ∙ sym (take-add a n all)

pub loop-done-preserved : goal.loop-done-preserved
loop-done-preserved g c =
    let before = c.loop-done.invariant in
    let joined = take-put_mid c.loop-done.done c.in_ok-n.n c.loop-done.buf c.read.new.buf before.within c.in_ok-n.ensures.bound.0 in
    record {
      same_length = search rules;
      within = search rules;
      bytes = subst (Consumes _ _) joined (Consumes-trans _ _ _ _ _ before.bytes c.in_ok-n.ensures.bytes.0);
    }
