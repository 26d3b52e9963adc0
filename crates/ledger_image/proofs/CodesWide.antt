-- Readers and layouts agree, for a section with a two-byte count.
--     codes-followed   a reader, then one that the value of the first picks
--     codes-count      a two-byte count of at most a limit
--     codes-wide       a section of at most a limit
use Prim.Native.Nat.{ℕ, ◌+◌, ◌^◌, ◌<◌}
use mathlib.Core.Path.{◌≡◌, refl, ap, sym, subst, ◌∙◌}
use mathlib.Core.List.{List, ◌++◌}
use mathlib.Core.Bool.{Bool, true, cond, ◌&&◌}
use native.Mathlib.Nat.{add_assoc}
use native.Mathlib.Omega.{arith}
use borrow.Author.Tests.{eq-eqb, eqb-true, lt-ltb, leb-true}
use lib.Dec.{eqb, leb, lit<}
use lib.ListN.{length, length-append}
use Rattle.laws.specs.Number.{number_at, digits}
use Rattle.laws.proofs.Tests.{and_left, and_right}
use Rattle.codec_cursor.specs.declared.Cursor.{Cursor}
use Rattle.codec_cursor.specs.Readers.{placed, Reader, advanced, times}
use Rattle.codec.specs.Layout.{joined, all}
use Rattle.codec_laws.proofs.Stands.{Stands, stands-join, stands-first, stands-rest, passed, stays}
use Rattle.codec_laws.proofs.Codes.{Codes, and-true, codes-like, codes-number}
use Rattle.codec_laws.proofs.CodesList.{codes-times}
use Rattle.ledger_image.specs.Images.{wide_bytes, followed, wide_count, wide_section}

-- The second reader's limits tell the value of the first.
pub codes-followed : {A B : Type 0} {p : Reader A} {q : A → Reader B} {ba : A → List ℕ} {bb : B → List ℕ} {ga : A → Bool} {gb : A → B → Bool} (f : B → A) → ((x : A) (y : B) → gb x y ≡ true → f y ≡ x) → Codes p ba ga → ((x : A) → Codes (q x) bb (gb x)) → Codes (followed p q) (λ y. ba (f y) ++ bb y) (λ y. ga (f y) && gb (f y) y)
codes-followed {p} {q} {ba} {bb} {ga} {gb} f tells j k =
    record {
      sound = λ s c b h.
          let x = (p s c).value in
          let t2 = (k x).sound s (p s c).next b h in
          let t1 = j.sound s c b t2.ok in
          let y = (q x s (p s c).next).value in
          let e : f y ≡ x = tells x y t2.limits in
          let at1 : (p s c).next.at ≡ c.at + length (ba (f y)) = ap (λ (d : Cursor). d.at) t1.next ∙ ap (λ z. c.at + length (ba z)) (sym e) in
          record {
            ok = t1.ok;
            stands = stands-join s c.at (ba (f y)) (bb y) (subst (λ z. Stands s c.at (ba z)) (sym e) t1.stands) (subst (λ (n : ℕ). Stands s n (bb y)) at1 t2.stands);
            next = t2.next ∙ ap (λ (n : ℕ). placed (n + length (bb y))) at1 ∙ ap placed (rw (length-append, add_assoc));
            limits = and-true (ga (f y)) (gb (f y) y) (ap ga e ∙ t1.limits) (ap (λ z. gb z y) e ∙ t2.limits);
          };
      complete = λ s c y o st l.
          let e1 = j.complete s c (f y) o (stands-first s c.at (ba (f y)) (bb y) st) (and_left (ga (f y)) (gb (f y) y) l) in
          let e2 = (k (f y)).complete s (placed (c.at + length (ba (f y)))) y refl (stands-rest s c.at (ba (f y)) (bb y) st) (and_right (ga (f y)) (gb (f y) y) l) in
          rw (e1, e2, length-append, add_assoc);
    }

pub codes-count : (limit : ℕ) → limit < 256 ^ 2 → Codes (wide_count limit) (digits 2) (λ n. leb n limit)
unfolding wide_count
codes-count limit small =
    let k = codes-number 2 (lit< tt) in
    record {
      sound = λ s c b h.
          let n = number_at s c.at 2 in
          let w = passed (advanced s c 2) (leb n limit) h in
          let t = k.sound s c b w.ok in
          let e : cond (advanced s c 2).ok n 0 ≡ n = ap (λ (o : Bool). cond o n 0) w.ok in
          record { ok = t.ok; stands = rw (w.stays, e) t.stands; next = w.stays ∙ t.next ∙ rw (w.stays, e); limits = rw (w.stays, e) w.test };
      complete = λ s c n o st l.
          let e = k.complete s c n o st (lt-ltb n (256 ^ 2) (omega (arith, leb-true n limit l, small))) in
          let v : number_at s c.at 2 ≡ n = ap (λ r. r.value) e in
          let d : advanced s c 2 ≡ placed (c.at + length (digits 2 n)) = ap (λ r. r.next) e in
          rw (v, d, stays (placed (c.at + length (digits 2 n))) (leb n limit) l);
    }

-- A section's reader reads exactly what its layout writes, within its limit and those of its elements.
pub codes-wide : {A : Type 0} (p : Reader A) (bytes : A → List ℕ) (good : A → Bool) → Codes p bytes good → (limit : ℕ) → limit < 256 ^ 2 → Codes (wide_section limit p) (wide_bytes bytes) (λ l. leb (length l) limit && all good l)
unfolding wide_section wide_bytes
codes-wide {A} p bytes good k limit small =
    codes-like (followed (wide_count limit) (λ n. times n p)) (λ (l : List A). digits 2 (length l) ++ joined bytes l) (λ (l : List A). digits 2 (length l) ++ joined bytes l)
    (λ (l : List A). leb (length l) limit && (eqb (length l) (length l) && all good l))
    (λ (l : List A). leb (length l) limit && all good l)
    (λ l g. refl)
    (λ l. rw (eq-eqb (length l) (length l) refl))
    (codes-followed length (λ n l g. eqb-true (length l) n (and_left (eqb (length l) n) (all good l) g)) (codes-count limit small) (codes-times p bytes good k))
