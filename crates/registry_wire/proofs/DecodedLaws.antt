-- What is known of an attempt that was decoded.
--     decoded-good     it is within the limits
--     anchored-parts   and its parts hold their anchoring events
use Prim.Native.Nat.{ℕ}
use mathlib.Core.Path.{◌≡◌, refl, sym}
use mathlib.Core.List.{List}
use mathlib.Core.Bool.{true, ◌&&◌}
use lib.Dec.{leb}
use lib.ListN.{length}
use Rattle.laws.specs.Number.{Bytes}
use Rattle.laws.proofs.Tests.{and_left, and_right}
use Rattle.cesr.specs.Primitives.{read_matter}
use Rattle.codec.specs.Layout.{all, good_event, good_identifier}
use Rattle.registry_source.specs.Sources.{good_source}
use Rattle.registry_signatures.specs.SignatureSections.{good_signature}
use Rattle.registry_wire.specs.Attempts.{good_anchors, good_evidence, good_message, anchors_in, evidence_in, carried_in, view_attempt, decode_of, Holds, Anchored}
use Rattle.registry_wire.specs.Attempts.Decoded.{decoded}
use Rattle.registry_wire.specs.declared.Attempt.{Attempt}
use Rattle.registry_wire.specs.declared.EvidenceAt.{EvidenceAt}
use Rattle.registry_wire.specs.declared.EvidenceAt.TheVariants as E
use Rattle.registry_wire.proofs.CodesAttempt.{decodes}

decoded-good : (s : List ℕ) (a : Attempt) → Bytes s → decoded (view_attempt s a) ≡ decode_of s → good_message (view_attempt s a) ≡ true
decoded-good s a b e = ((decodes s (view_attempt s a) b).0 (sym e)).1

good-carried : (s : List ℕ) (e : EvidenceAt) → good_evidence (evidence_in s e) ≡ true → good_anchors (anchors_in s (carried_in e)) ≡ true
unfolding anchors_in good_anchors all
good-carried s E.Missing g = refl
good-carried s (E.Issuer p c) g = and_right (good_identifier (read_matter s p)) (good_anchors (anchors_in s c)) g
good-carried s E.Backer g = refl
good-carried s (E.BackerAt c) g = refl

pub anchored-parts : (s : List ℕ) (a : Attempt) → Bytes s → decoded (view_attempt s a) ≡ decode_of s → Holds s a.anchor → Holds s (carried_in a.evidence) → Anchored s a
unfolding good_message
anchored-parts s a b e h k =
    let m = view_attempt s a in
    let signatures = leb (length m.signatures) 64 && all good_signature m.signatures in
    let last = good_anchors m.anchor && (signatures && good_evidence m.evidence) in
    let g1 = and_right (good_event m.event) ((leb (length m.source) 1 && all good_source m.source) && last) (decoded-good s a b e) in
    let g2 = and_right (leb (length m.source) 1 && all good_source m.source) last g1 in
    let g3 = and_right signatures (good_evidence m.evidence) (and_right (good_anchors m.anchor) (signatures && good_evidence m.evidence) g2) in
    record
    { message = h; good-message = and_left (good_anchors m.anchor) (signatures && good_evidence m.evidence) g2; carried = k; good-carried = good-carried s a.evidence g3 }
