-- Readers and layouts agree, for attempts.
--     decodes      the decoder accepts bytes as an attempt exactly when they are its layout and it is within the limits
use Prim.Native.Nat.{ℕ, ◌+◌, ◌<◌}
use mathlib.Core.Path.{◌≡◌, refl, ap, sym, ◌∙◌}
use mathlib.Core.List.{List, [], ◌∷◌, ◌++◌, append-nil}
use mathlib.Core.Bool.{Bool, true, false, cond, ◌&&◌, ◌||◌}
use mathlib.Core.Logic.{◌↔◌}
use native.Mathlib.Omega.{arith}
use borrow.Author.Tests.{eqb-true, leb-true}
use lib.Dec.{eqb, leb, lit<}
use lib.ListN.{length}
use Rattle.laws.specs.Number.{Bytes}
use Rattle.cesr.specs.Primitives.{matter_bytes}
use Rattle.cesr_sn.specs.declared.Sn.{Sn}
use Rattle.cesr.specs.declared.Matter.{Matter}
use Rattle.cesr.specs.declared.Said.{Said}
use Rattle.codec.specs.TelEvents.{Event}
use Rattle.events_seal.specs.declared.Seal.{Seal}
use Rattle.codec_cursor.specs.declared.Cursor.{Cursor}
use Rattle.codec_cursor.specs.Readers.{placed, starting, both, after, read_byte, read_identifier}
use Rattle.codec.specs.Events.{read_seal}
use Rattle.codec.specs.Layout.{joined, section_bytes, all, seal_bytes, good_identifier, good_seal, good_toad}
use Rattle.registry_seals.proofs.Stands.{Stands, stays}
use Rattle.registry_seals.proofs.Codes.{Told, Codes, led, leads, shift, mapped-is, codes-like, codes-map, codes-both, codes-after, codes-quad, codes-sn, codes-said, codes-identifier}
use Rattle.registry_seals.proofs.CodesList.{codes-section}
use Rattle.registry_seals.proofs.CodesSeal.{codes-byte-test, codes-seal}
use Rattle.registry_seals.proofs.CodesEvent.{codes-event}
use Rattle.registry_seals.proofs.CodesPlain.{plain, plain-told}
use Rattle.registry_seals.proofs.CodesRound.{whole-sound, whole-complete}
use Rattle.registry_state.specs.States.{registry_bytes, read_registry}
use Rattle.registry_source.specs.Sources.{source_bytes, good_source, source_of, read_source}
use Rattle.registry_wire.specs.Attempts.{Anchor, Evidence, Message, anchor_bytes, evidence_bytes, attempt_bytes, good_anchor, good_anchors, good_evidence, good_message, read_seals, anchor_of, read_anchor, read_anchors, issuer_of, read_issuer, read_backer_at, read_evidence, message_of, read_message, decode_of}
use Rattle.registry_signatures.specs.SignatureSections.{signature_bytes, good_signature, signature_of, read_signature}
use Rattle.registry_signatures.specs.declared.Signature.{Signature}
use Rattle.registry_wire.specs.Attempts.Evidence.{missing, issuer, backer, backer_at}
use Rattle.registry_wire.specs.Attempts.Decoded.{malformed, decoded}
use Rattle.registry_source.specs.declared.Source.{Source}
use Rattle.registry_state.proofs.CodesState.{codes-registry}

source_parts : Source → Sn × Said
source_parts x = (x.sn, x.said)

pub codes-source : Codes read_source source_bytes good_source
unfolding read_source good_source source_parts
codes-source = codes-map source_of source_parts good_source (λ t h. (refl, h)) (λ x h. (refl, h)) (codes-both codes-sn codes-said)

anchor_parts : Anchor → Matter × (Sn × (Said × List Seal))
anchor_parts x = (x.prefix, (x.sn, (x.said, x.seals)))

pub codes-seals : Codes read_seals (section_bytes seal_bytes) (λ l. leb (length l) 8 && all good_seal l)
unfolding read_seals
codes-seals = codes-section read_seal seal_bytes good_seal codes-seal 8 (lit< tt)

pub codes-anchor : Codes read_anchor anchor_bytes good_anchor
unfolding read_anchor good_anchor anchor_parts
codes-anchor =
    codes-map anchor_of anchor_parts good_anchor (λ t h. (refl, h)) (λ x h. (refl, h))
    (codes-both codes-identifier (codes-both codes-sn (codes-both codes-said codes-seals)))

pub codes-anchors : Codes read_anchors (section_bytes anchor_bytes) good_anchors
unfolding read_anchors good_anchors
codes-anchors = codes-section read_anchor anchor_bytes good_anchor codes-anchor 1 (lit< tt)

signature_parts : Signature → ℕ × ℕ
signature_parts x = (x.index, x.verdict)

pub codes-signature : Codes read_signature signature_bytes good_signature
unfolding read_signature good_signature good_toad signature_parts
codes-signature =
    codes-map signature_of signature_parts good_signature (λ t h. (refl, h)) (λ x h. (refl, h))
    (codes-both codes-quad (codes-byte-test (λ v. leb v 1) (λ x h. omega (arith, leb-true x 1 h))))

-- what stands behind the evidence's byte
abbrev evidence_tail : Evidence → List ℕ
evidence_tail missing = []
evidence_tail (issuer prefix anchor) = matter_bytes prefix ++ section_bytes anchor_bytes anchor
evidence_tail backer = []
evidence_tail (backer_at state) = registry_bytes state

codes-issuer : Codes (both read_identifier read_anchors) (λ t. matter_bytes t.0 ++ section_bytes anchor_bytes t.1) (λ t. good_identifier t.0 && good_anchors t.1)
codes-issuer = codes-both codes-identifier codes-anchors

module _ (s : List ℕ) (b : Bytes s) where
  issuer-told : (d : Cursor) → (read_issuer s d).next.ok ≡ true → Told evidence_tail good_evidence s d (read_issuer s d)
  unfolding read_issuer
  issuer-told d h = let t = codes-issuer.sound s d b h in record { ok = t.ok; stands = t.stands; next = t.next; limits = t.limits }

  state-told : (d : Cursor) → (read_backer_at s d).next.ok ≡ true → Told evidence_tail good_evidence s d (read_backer_at s d)
  unfolding read_backer_at
  state-told d h = let t = codes-registry.sound s d b h in record { ok = t.ok; stands = t.stands; next = t.next; limits = t.limits }

  evidence-sound : (c : Cursor) → (read_evidence s c).next.ok ≡ true → Told evidence_bytes good_evidence s c (read_evidence s c)
  unfolding read_evidence read_issuer read_backer_at
  evidence-sound c h = go (eqb (read_byte s c).value 1) refl h
    where
      k : ℕ
      k = (read_byte s c).value

      d : Cursor
      d = (read_byte s c).next

      three : (t : Bool) → eqb k 3 ≡ t → (cond t (read_backer_at s d) (plain missing backer k d)).next.ok ≡ true → Told evidence_bytes good_evidence s c (cond t (read_backer_at s d) (plain missing backer k d))
      three true e h = led evidence_bytes 3 s c (read_backer_at s d) b (eqb-true k 3 e) refl (state-told d h)
      three false e h = plain-told missing backer evidence_bytes good_evidence refl refl refl refl s c b h

      go : (t : Bool) → eqb k 1 ≡ t → (cond t (read_issuer s d) (cond (eqb k 3) (read_backer_at s d) (plain missing backer k d))).next.ok ≡ true → Told evidence_bytes good_evidence s c (cond t (read_issuer s d) (cond (eqb k 3) (read_backer_at s d) (plain missing backer k d)))
      go true e h = led evidence_bytes 1 s c (read_issuer s d) b (eqb-true k 1 e) refl (issuer-told d h)
      go false e h = three (eqb k 3) refl h

-- evidence that is its byte alone
plain-complete : (k : ℕ) (x : Evidence) → k < 256 → cond (eqb k 2) backer missing ≡ x → eqb k 1 ≡ false → eqb k 3 ≡ false → (eqb k 0 || eqb k 2) ≡ true → (s : List ℕ) (c : Cursor) → c.ok ≡ true → Stands s c.at (k ∷ []) → read_evidence s c ≡ record { value = x; next = placed (c.at + 1) }
unfolding read_evidence
plain-complete k x l e n1 n3 h s c o st =
    let w = leads k [] s c l o st in
    rw (w.0, n1, n3, stays (placed (c.at + 1)) (eqb k 0 || eqb k 2) h, e)

evidence-complete : (s : List ℕ) (c : Cursor) (x : Evidence) → c.ok ≡ true → Stands s c.at (evidence_bytes x) → good_evidence x ≡ true → read_evidence s c ≡ record { value = x; next = placed (c.at + length (evidence_bytes x)) }
unfolding read_evidence read_issuer read_backer_at
evidence-complete s c missing o st g = plain-complete 0 missing (lit< tt) refl refl refl refl s c o st
evidence-complete s c (issuer prefix anchor) o st g =
    let tail = matter_bytes prefix ++ section_bytes anchor_bytes anchor in
    let w = leads 1 tail s c (lit< tt) o st in
    let e = codes-issuer.complete s (placed (c.at + 1)) (prefix, anchor) refl w.1 g in
    rw w.0
    (mapped-is issuer_of (both read_identifier read_anchors) s (placed (c.at + 1)) (placed (c.at + 1 + length tail)) (prefix, anchor) e
    ∙ ap (λ (m : ℕ). record { value = issuer prefix anchor; next = placed m }) (shift c.at (length tail)))
evidence-complete s c backer o st g = plain-complete 2 backer (lit< tt) refl refl refl refl s c o st
evidence-complete s c (backer_at state) o st g =
    let w = leads 3 (registry_bytes state) s c (lit< tt) o st in
    let e = codes-registry.complete s (placed (c.at + 1)) state refl w.1 g in
    rw w.0
    (mapped-is backer_at read_registry s (placed (c.at + 1)) (placed (c.at + 1 + length (registry_bytes state))) state e
    ∙ ap (λ (m : ℕ). record { value = backer_at state; next = placed m }) (shift c.at (length (registry_bytes state))))

pub codes-evidence : Codes read_evidence evidence_bytes good_evidence
codes-evidence = record { sound = λ s c b h. evidence-sound s b c h; complete = evidence-complete }

message_parts : Message → Event × (List Source × (List Anchor × (List Signature × Evidence)))
message_parts a = (a.event, (a.source, (a.anchor, (a.signatures, a.evidence))))

-- section 10 has its count, which is 1
one-evidence : (x : Evidence) → 1 ∷ evidence_bytes x ≡ section_bytes evidence_bytes (x ∷ [])
unfolding section_bytes joined
one-evidence x = ap (λ (l : List ℕ). 1 ∷ l) (sym (append-nil (evidence_bytes x)))

codes-last : Codes (after 1 read_evidence) (λ x. section_bytes evidence_bytes (x ∷ [])) good_evidence
codes-last = codes-like (after 1 read_evidence) (λ x. 1 ∷ evidence_bytes x) (λ x. section_bytes evidence_bytes (x ∷ [])) good_evidence good_evidence (λ x g. one-evidence x) (λ x. refl) (codes-after 1 (lit< tt) codes-evidence)

pub codes-message : Codes read_message attempt_bytes good_message
unfolding read_message attempt_bytes good_message message_parts
codes-message =
    codes-map message_of message_parts good_message (λ t h. (refl, h)) (λ a h. (refl, h))
    (codes-both codes-event
    (codes-both (codes-section read_source source_bytes good_source codes-source 1 (lit< tt))
    (codes-both codes-anchors (codes-both (codes-section read_signature signature_bytes good_signature codes-signature 64 (lit< tt)) codes-last))))

-- an attempt that was decoded is no malformed one, and is the one that was read
decoded-only : (t : Bool) (x a : Message) → cond t (decoded x) malformed ≡ decoded a → (t ≡ true) × (x ≡ a)
decoded-only true x a e = (refl, (cc))
decoded-only false x a e = absurd (let z : ◌≡◌ {A = ℕ} 0 1 = cc in omega arith)

accepts : (s : List ℕ) (a : Message) → Bytes s → decode_of s ≡ decoded a → (s ≡ attempt_bytes a) × (good_message a ≡ true)
unfolding decode_of
accepts s a b e =
    let r = read_message s starting in
    let d = decoded-only (r.next.ok && eqb r.next.at (length s)) r.value a e in
    let w = whole-sound codes-message s b d.0 in
    (w.0 ∙ ap attempt_bytes d.1, ap good_message (sym d.1) ∙ w.1)

decodes-back : (s : List ℕ) (a : Message) → s ≡ attempt_bytes a → good_message a ≡ true → decode_of s ≡ decoded a
unfolding decode_of
decodes-back s a e g = let w = whole-complete codes-message s a e g in rw (w.0, w.1)

-- the decoder accepts bytes as an attempt exactly when they are its layout and it is within the limits
pub decodes : (s : List ℕ) (a : Message) → Bytes s → (decode_of s ≡ decoded a) ↔ ((s ≡ attempt_bytes a) × (good_message a ≡ true))
decodes s a b = (λ e. accepts s a b e, λ h. decodes-back s a h.0 h.1)
