-- The seal section of an anchoring event in bytes, and the list of its seals.
--     only-seal    a section's bytes pass exactly when its list is the one wanted seal
use Prim.Native.Nat.{ℕ, suc, ◌+◌, ◌<◌}
use mathlib.Core.Path.{◌≡◌, refl, ap, ◌∙◌}
use mathlib.Core.List.{List, [], ◌∷◌, append-nil}
use mathlib.Core.Bool.{Bool, true, false, ◌&&◌, false≢true}
use native.Mathlib.Omega.{arith}
use borrow.Author.Tests.{eq-eqb, ne_eqb, leb-true}
use lib.Dec.{eqb, leb, lit<}
use lib.ListN.{length}
use Rattle.laws.specs.Number.{Bytes}
use Rattle.laws.proofs.Tests.{and_left, and_right}
use Rattle.cesr_sn.specs.declared.Sn.{Sn}
use Rattle.cesr.specs.declared.Matter.{Matter}
use Rattle.cesr.specs.declared.Said.{Said}
use Rattle.events_seal.specs.declared.Seal.{Seal}
use Rattle.codec_cursor.specs.Readers.{placed, starting, stopped, need, counted}
use Rattle.codec_laws.specs.Events.{read_seal}
use Rattle.codec_laws.specs.Layout.{joined, section_bytes, all, seal_bytes, good_seal}
use Rattle.codec_laws.proofs.Stands.{stands-first, whole-stands}
use Rattle.codec_laws.proofs.Codes.{leads, count-complete}
use Rattle.codec_laws.proofs.CodesSeal.{codes-seal}
use Rattle.registry_seals.specs.SealSections.{seals_event, only_seal, anchor_seals}

-- a reader of seals that has stopped stays so
stopped-seal : (b : List ℕ) → Bytes b → (read_seal b stopped).next.ok ≡ false
stopped-seal b g = go (read_seal b stopped).next.ok refl
  where
    go : (t : Bool) → (read_seal b stopped).next.ok ≡ t → (read_seal b stopped).next.ok ≡ false
    go true e = absurd (false≢true (codes-seal.sound b stopped g e).ok)
    go false e = e

-- another count than 1 stops the cursor
not-one : (n : ℕ) (tail : List ℕ) → n < 256 → (n ≡ 1 → ⊥) → counted 1 (n ∷ tail) starting ≡ stopped
unfolding counted need
not-one n tail l h =
    let w = leads n tail (n ∷ tail) starting l refl (whole-stands (n ∷ tail)) in
    rw (w.0, ne_eqb n 1 h)

none-wanted : (n : ℕ) (tail : List ℕ) (i : Matter) (s : Sn) (d : Said) → Bytes (n ∷ tail) → n < 256 → (n ≡ 1 → ⊥) → anchor_seals (n ∷ tail) i s d ≡ false
unfolding anchor_seals
none-wanted n tail i s d b l h = rw (not-one n tail l h, stopped-seal (n ∷ tail) b)

one_wanted : (x : Seal) (i : Matter) (s : Sn) (d : Said) → good_seal x ≡ true → anchor_seals (1 ∷ seal_bytes x) i s d ≡ seals_event x i s d
unfolding anchor_seals
one_wanted x i s d g =
    let b : List ℕ = 1 ∷ seal_bytes x in
    let w = leads 1 (seal_bytes x) b starting (lit< tt) refl (whole-stands b) in
    let c : counted 1 b starting ≡ placed (0 + 1) = count-complete 1 b starting (lit< tt) refl (stands-first b 0 (1 ∷ []) (seal_bytes x) (whole-stands b)) in
    let e = codes-seal.complete b (placed (0 + 1)) x refl w.1 g in
    let n : eqb (0 + 1 + length (seal_bytes x)) (suc (length (seal_bytes x))) ≡ true = eq-eqb (0 + 1 + length (seal_bytes x)) (suc (length (seal_bytes x))) (omega arith) in
    rw (c, e, n)

pub only-seal : (l : List Seal) (i : Matter) (s : Sn) (d : Said) → Bytes (section_bytes seal_bytes l) → (leb (length l) 8 && all good_seal l) ≡ true → anchor_seals (section_bytes seal_bytes l) i s d ≡ only_seal l i s d
unfolding section_bytes joined all
only-seal [] i s d b g = none-wanted 0 [] i s d b (lit< tt) (λ e. omega arith)
only-seal (x ∷ []) i s d b g =
    ap (λ (t : List ℕ). anchor_seals (1 ∷ t) i s d) (append-nil (seal_bytes x))
    ∙ one_wanted x i s d (and_left (good_seal x) true (and_right (leb 1 8) (good_seal x && true) g))
only-seal (x ∷ (y ∷ l)) i s d b g =
    let n = length (x ∷ (y ∷ l)) in
    none-wanted n (joined seal_bytes (x ∷ (y ∷ l))) i s d b (omega (arith, leb-true n 8 (and_left (leb n 8) (all good_seal (x ∷ (y ∷ l))) g))) (λ e. omega arith)
