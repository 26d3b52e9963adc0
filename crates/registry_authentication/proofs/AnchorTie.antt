-- An anchoring event in bytes is judged as the event that the bytes are.
--     anchored-in      20 and 21 of the bytes are 20 and 21 of the event
use mathlib.Core.Path.{◌≡◌, refl, subst}
use mathlib.Core.List.{List, [], ◌∷◌}
use mathlib.Core.Bool.{true, ◌&&◌}
use native.Mathlib.Omega.{arith}
use borrow.Author.Tests.{ne_eqb, leb-true}
use lib.Dec.{leb}
use lib.ListN.{length}
use Rattle.laws.specs.Number.{Bytes}
use Rattle.laws.proofs.Tests.{and_left, and_right}
use Rattle.cesr_sn.specs.declared.Sn.{Sn}
use Rattle.cesr.specs.declared.Matter.{Matter}
use Rattle.cesr.specs.declared.Said.{Said}
use Rattle.codec.specs.Layout.{joined, all}
use Rattle.registry_wire.specs.Attempts.{Anchor, anchor_bytes, good_anchor, good_anchors}
use Rattle.registry_wire.specs.declared.Source.{Source}
use Rattle.registry_wire.proofs.AttemptLaws.{anchor-some}
use Rattle.registry_wire.proofs.AnchorLaws.{event-head, event-seals, one-event}
use Rattle.registry_authentication.specs.Issuers.{anchored, anchored_in}

one_in : (i : Matter) (id : Said) (sn : Sn) (said : Said) (x : Source) (l : List Source) (a : Anchor) → Bytes (anchor_bytes a) → good_anchor a ≡ true → anchored_in i id sn said (x ∷ l) (anchor_bytes a) ≡ anchored i id sn said (x ∷ l) (a ∷ [])
one_in i id sn said x l a b g =
    let h = event-head a g in
    rw (ne_eqb (length (anchor_bytes a)) 0 (λ e. omega (arith, anchor-some a)), h.0, h.1.0, h.1.1, event-seals a id.0 sn said b g)

pub anchored-in : (i : Matter) (id : Said) (sn : Sn) (said : Said) (x : List Source) (l : List Anchor) → Bytes (joined anchor_bytes l) → good_anchors l ≡ true → anchored_in i id sn said x (joined anchor_bytes l) ≡ anchored i id sn said x l
unfolding good_anchors joined all
anchored-in i id sn said [] l b g = refl
anchored-in i id sn said (x ∷ k) [] b g = refl
anchored-in i id sn said (x ∷ k) (a ∷ []) b g =
    let good = and_left (good_anchor a) true (and_right (leb 1 1) (good_anchor a && true) g) in
    rw (one-event a) (one_in i id sn said x k a (subst Bytes (one-event a) b) good)
anchored-in i id sn said (x ∷ k) (a ∷ (c ∷ l)) b g =
    let n = length (a ∷ (c ∷ l)) in
    absurd (omega (arith, leb-true n 1 (and_left (leb n 1) (all good_anchor (a ∷ (c ∷ l))) g)))
