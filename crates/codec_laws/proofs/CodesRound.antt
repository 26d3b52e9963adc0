-- The round trips, for any reader that agrees with a layout.
--     codes-back    what is stored is read
--     codes-again   what is read is stored without a change
--     whole-sound, whole-complete   bytes that are read to their end
use Prim.Native.Nat.{ℕ, ◌+◌, ◌≤◌}
use mathlib.Core.Path.{◌≡◌, refl, ap, sym, subst, ◌∙◌}
use mathlib.Core.List.{List, ◌++◌, append_assoc}
use mathlib.Core.Bool.{Bool, true, false, ◌&&◌}
use native.Mathlib.Nat.{zero-add}
use native.Mathlib.Omega.{arith}
use borrow.Author.Tests.{eq-eqb, eqb-true}
use lib.Dec.{eqb}
use lib.ListN.{length, take, drop}
use lib.Seq.{sets-eq, length-take-le, take_at, drop_at}
use Rattle.laws.specs.Number.{Bytes}
use Rattle.laws.specs.Room.{room, put}
use Rattle.laws.proofs.Room.{put-sets, put-none, room-true, room-false, stored_same}
use Rattle.laws.proofs.Tests.{and_left, and_right}
use Rattle.codec.specs.declared.Cursor.{Cursor}
use Rattle.codec.specs.Readers.{placed, Reader, starting}
use Rattle.codec.specs.declared.Read.{Read}
use Rattle.codec_laws.proofs.Stands.{Stands, stands-whole, whole-stands}
use Rattle.codec_laws.proofs.Codes.{Codes}

-- bytes that were stored stand there
pub put-stands : (l : List ℕ) (at : ℕ) (bs : List ℕ) → at + length bs ≤ length l → Stands (put l at bs) at bs
put-stands l at bs h =
    let e : put l at bs ≡ take at l ++ (bs ++ drop (at + length bs) l) = put-sets l at (length bs) bs refl h ∙ sets-eq bs l at h ∙ rw append_assoc in
    rw (e, drop_at (take at l) (bs ++ drop (at + length bs) l) at (length-take-le at l (omega arith)), take_at bs (drop (at + length bs) l) (length bs) refl)

-- bytes that stand there are stored without a change
pub stands-put : (l : List ℕ) (at : ℕ) (bs : List ℕ) → Stands l at bs → put l at bs ≡ l
stands-put l at bs st = go (room l at (length bs)) refl
  where
    go : (t : Bool) → room l at (length bs) ≡ t → put l at bs ≡ l
    go true e =
        let h = room-true l at (length bs) e in
        put-sets l at (length bs) bs refl h ∙ stored_same l at (length bs) bs h (sym st)
    go false e = put-none l at (length bs) bs refl (room-false l at (length bs) e)

module _ {A : Type 0} {p : Reader A} {bytes : A → List ℕ} {good : A → Bool} (k : Codes p bytes good) where
  pub codes-back : (l : List ℕ) (at : ℕ) (x : A) → good x ≡ true → at + length (bytes x) ≤ length l → p (put l at (bytes x)) (placed at) ≡ record { value = x; next = placed (at + length (bytes x)) }
  codes-back l at x g h = k.complete (put l at (bytes x)) (placed at) x refl (put-stands l at (bytes x) h) g

  pub codes-again : (l : List ℕ) (at : ℕ) → Bytes l → (p l (placed at)).next.ok ≡ true → put l at (bytes (p l (placed at)).value) ≡ l
  codes-again l at b h = stands-put l at (bytes (p l (placed at)).value) (k.sound l (placed at) b h).stands

  -- bytes that a reader reads whole are the layout of what it gives, and the layout is read whole
  pub whole-sound : (s : List ℕ) → Bytes s → ((p s starting).next.ok && eqb (p s starting).next.at (length s)) ≡ true → (s ≡ bytes (p s starting).value) × (good (p s starting).value ≡ true)
  whole-sound s b h =
      let r = p s starting in
      let t = k.sound s starting b (and_left r.next.ok (eqb r.next.at (length s)) h) in
      let n : r.next.at ≡ length s = eqb-true r.next.at (length s) (and_right r.next.ok (eqb r.next.at (length s)) h) in
      let m : 0 + length (bytes r.value) ≡ length s = sym (ap (λ (d : Cursor). d.at) t.next) ∙ n in
      (stands-whole s (bytes r.value) t.stands (sym (zero-add (length (bytes r.value))) ∙ m), t.limits)

  pub whole-complete : (s : List ℕ) (x : A) → s ≡ bytes x → good x ≡ true → (((p s starting).next.ok && eqb (p s starting).next.at (length s)) ≡ true) × ((p s starting).value ≡ x)
  whole-complete s x e g =
      let c = k.complete s starting x refl (subst (λ (l : List ℕ). Stands s 0 l) e (whole-stands s)) g in
      let n : eqb (0 + length (bytes x)) (length s) ≡ true = eq-eqb (0 + length (bytes x)) (length s) (zero-add (length (bytes x)) ∙ ap length (sym e)) in
      (rw (c, n), ap (λ (r : Read A). r.value) c)
