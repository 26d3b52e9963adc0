-- What folds read of the anchoring events of an attempt that was decoded.
--     none-chosen      an empty part gives way to the other
--     message-in       the message's anchoring event, in its part of the bytes
--     issuer-in        18 to 21 by the parts are 18 to 21 of the message
use Prim.Native.Nat.{ℕ}
use mathlib.Core.Path.{◌≡◌, refl, sym, subst}
use mathlib.Core.List.{List, [], ◌∷◌}
use mathlib.Core.Bool.{true}
use native.Mathlib.Omega.{arith}
use borrow.Author.Tests.{ne_eqb}
use lib.ListN.{length}
use Rattle.laws.specs.Number.{Bytes}
use Rattle.cesr_sn.specs.declared.Sn.{Sn}
use Rattle.cesr.specs.declared.Matter.{Matter}
use Rattle.cesr.specs.declared.Said.{Said}
use Rattle.codec.specs.Layout.{joined}
use Rattle.registry_wire.specs.Sources.{sources_in}
use Rattle.registry_wire.specs.Attempts.{Anchor, anchor_bytes, good_anchors, chosen_anchors, anchors_in, evidence_in, carried_in, view_attempt, part_of, Anchored}
use Rattle.registry_wire.specs.declared.EvidenceAt.{EvidenceAt}
use Rattle.registry_wire.specs.declared.EvidenceAt.TheVariants as E
use Rattle.registry_seals.specs.SealSections.{chosen}
use Rattle.registry_wire.specs.declared.Part.{Part}
use Rattle.registry_wire.specs.declared.Attempt.{Attempt}
use Rattle.registry_wire.proofs.AnchorLaws.{used-event, part_bytes}
use Rattle.registry_authentication.specs.Issuers.{anchored, anchored_in, carried_by, authenticate_issuer, authenticate_in}
use Rattle.registry_authentication.proofs.AnchorTie.{anchored-in}

-- a part that is empty is not chosen
pub none-chosen : (s : List ℕ) (p : Part) (m : List ℕ) → p ≡ record { from = 0; to = 0 } → chosen (part_of s p) m ≡ m
unfolding chosen part_of
none-chosen s p m e = rw e

pub message-in : (s : List ℕ) (a : Attempt) (i : Matter) (id : Said) (sn : Sn) (said : Said) → Bytes s → Anchored s a → anchored_in i id sn said (sources_in s a.source) (part_of s a.anchor) ≡ anchored i id sn said (sources_in s a.source) (anchors_in s a.anchor)
message-in s a i id sn said b k =
    let w : Bytes (joined anchor_bytes (anchors_in s a.anchor)) = subst Bytes k.message (part_bytes s a.anchor b) in
    rw k.message (anchored-in i id sn said (sources_in s a.source) (anchors_in s a.anchor) w k.good-message)

good-chosen : (l m : List Anchor) → good_anchors l ≡ true → good_anchors m ≡ true → good_anchors (chosen_anchors l m) ≡ true
good-chosen [] m g h = h
good-chosen (x ∷ l) m g h = g

chosen-bytes : (e m : List ℕ) → Bytes e → Bytes m → Bytes (chosen e m)
unfolding chosen
chosen-bytes [] m g h = h
chosen-bytes (x ∷ e) m g h =
    let q : chosen (x ∷ e) m ≡ x ∷ e = rw (ne_eqb (length (x ∷ e)) 0 (λ z. omega arith)) in
    subst Bytes (sym q) g

-- 18 to 21 in bytes
module _ (s : List ℕ) (a : Attempt) (i : Matter) (id : Said) (sn : Sn) (said : Said) (b : Bytes s) (k : Anchored s a) where
  used-in : anchored_in i id sn said (sources_in s a.source) (chosen (part_of s (carried_in a.evidence)) (part_of s a.anchor)) ≡ anchored i id sn said (sources_in s a.source) (chosen_anchors (anchors_in s (carried_in a.evidence)) (anchors_in s a.anchor))
  used-in =
      let p = carried_in a.evidence in
      let l = anchors_in s p in
      let m = anchors_in s a.anchor in
      let u = used-event s p a.anchor k.carried k.message in
      let w = chosen-bytes (part_of s p) (part_of s a.anchor) (part_bytes s p b) (part_bytes s a.anchor b) in
      rw u (anchored-in i id sn said (sources_in s a.source) (chosen_anchors l m) (subst Bytes u w) (good-chosen l m k.good-carried k.good-message))

  carried : (e : EvidenceAt) → anchors_in s (carried_in e) ≡ carried_by (evidence_in s e)
  unfolding anchors_in
  carried E.Missing = refl
  carried (E.Issuer p c) = refl
  carried E.Backer = refl
  carried (E.BackerAt c) = refl

  pub issuer-in : authenticate_in i id sn said (evidence_in s a.evidence) (sources_in s a.source) (chosen (part_of s (carried_in a.evidence)) (part_of s a.anchor)) ≡ authenticate_issuer i id sn said (view_attempt s a)
  unfolding authenticate_in authenticate_issuer
  issuer-in = rw (used-in, carried a.evidence)
