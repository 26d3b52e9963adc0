-- How the sections around an event are read.
--     anchors-in, signatures-in     what stands between the cursors is what was read
--     anchors-hold                  and nothing else stands there
--     evidence-issuer, evidence-state, evidence-plain   evidence, by its byte
--     issuer-read, state-read, backer-read, missing-read
--                                   what is kept of evidence stands for what was read
--     decode-read                   the parts, put together
use Prim.Native.Nat.{ℕ, zero, suc, ◌+◌, ◌-◌, ◌≤◌, ◌<◌}
use mathlib.Core.Path.{◌≡◌, refl, ap, sym, subst, ◌∙◌}
use mathlib.Core.List.{List, [], ◌∷◌}
use mathlib.Core.Bool.{Bool, true, false, cond, ◌&&◌, ◌||◌}
use native.Mathlib.Omega.{arith}
use borrow.Author.Tests.{eq-eqb, ne_eqb}
use lib.Dec.{eqb, lit<}
use lib.ListN.{length, length-append}
use Rattle.laws.specs.Number.{Bytes}
use Rattle.laws.proofs.Tests.{and_left}
use Rattle.cesr.specs.Primitives.{read_matter}
use Rattle.cesr.proofs.Matters.{length-matter}
use Rattle.codec.specs.TelEvents.{Event}
use Rattle.codec_cursor.specs.declared.Cursor.{Cursor}
use Rattle.codec_cursor.specs.Readers.{placed, starting, need, read_byte, read_if, read_identifier, counted, times, count_up_to, section}
use Rattle.codec_cursor.specs.declared.Read.{Read}
use Rattle.codec.specs.Events.{read_event}
use Rattle.codec.specs.Layout.{joined}
use Rattle.codec.proofs.Loops.{count-within}
use Rattle.registry_seals.proofs.Codes.{codes-after}
use Rattle.registry_seals.proofs.CodesList.{codes-times, codes-section}
use Rattle.registry_state.specs.States.{read_registry}
use Rattle.registry_source.specs.Sources.{read_source}
use Rattle.registry_wire.specs.Attempts.{Anchor, Decoded, anchor_bytes, good_anchor, read_anchor, read_anchors, read_issuer, read_backer_at, read_evidence, read_message, decode_of, anchors_in, evidence_in, carried_in, part_of, Holds, ReadAs, passed_anchors}
use Rattle.registry_signatures.specs.SignatureSections.{signature_bytes, good_signature, read_signature, signatures_in, passed_signatures}
use Rattle.registry_wire.specs.Attempts.Evidence.{missing, issuer, backer}
use Rattle.registry_wire.specs.Attempts.Decoded.{malformed, decoded}
use Rattle.registry_source.specs.declared.Source.{Source}
use Rattle.registry_wire.specs.declared.Part.{Part}
use Rattle.registry_signatures.specs.declared.Counted.{Counted}
use Rattle.registry_wire.specs.declared.EvidenceAt.{EvidenceAt}
use Rattle.registry_wire.specs.declared.EvidenceAt.TheVariants as E
use Rattle.registry_wire.proofs.CodesAttempt.{codes-anchor, codes-signature, codes-evidence}

-- a cursor that has not stopped is its place
at_place : (c : Cursor) → c.ok ≡ true → placed c.at ≡ c
at_place c h = ap (λ (t : Bool). record { ok = t; at = c.at }) (sym h)

pub anchor-some : (a : Anchor) → 0 < length (anchor_bytes a)
anchor-some a = rw (length-append, length-matter) (omega arith)

module _ (s : List ℕ) (c : Cursor) (b : Bytes s) where
  pub signatures-in : (section 64 read_signature s c).next.ok ≡ true → signatures_in s (passed_signatures s c).value ≡ (section 64 read_signature s c).value
  unfolding signatures_in passed_signatures section
  signatures-in h =
      let n = count_up_to 64 s c in
      let t = (codes-times read_signature signature_bytes good_signature codes-signature n.value).sound s n.next b h in
      ap (λ (d : Cursor). (times n.value read_signature s d).value) (at_place n.next t.ok)

  pub anchors-in : (read_anchors s c).next.ok ≡ true → anchors_in s (passed_anchors s c).value ≡ (read_anchors s c).value
  unfolding anchors_in passed_anchors read_anchors section times
  anchors-in = go (count_up_to 1 s c).value (count-within 1 s c (count_up_to 1 s c) refl)
    where
      d : Cursor
      d = (count_up_to 1 s c).next

      go : (k : ℕ) → k ≤ 1 → (times k read_anchor s d).next.ok ≡ true → cond (eqb d.at (times k read_anchor s d).next.at) [] ((read_anchor s (placed d.at)).value ∷ []) ≡ (times k read_anchor s d).value
      go zero l h = rw (eq-eqb d.at d.at refl)
      go (suc zero) l h =
          let r = read_anchor s d in
          let t = codes-anchor.sound s d b h in
          let e : r.next.at ≡ d.at + length (anchor_bytes r.value) = ap (λ (x : Cursor). x.at) t.next in
          rw (ne_eqb d.at r.next.at (λ q. omega (arith, anchor-some r.value)), at_place d t.ok)
      go (suc (suc k)) l h = absurd (omega arith)

  pub anchors-hold : (read_anchors s c).next.ok ≡ true → Holds s (passed_anchors s c).value
  unfolding part_of passed_anchors read_anchors section
  anchors-hold h =
      let n = count_up_to 1 s c in
      let r = times n.value read_anchor s n.next in
      let t = (codes-times read_anchor anchor_bytes good_anchor codes-anchor n.value).sound s n.next b h in
      let q : r.next.at ≡ n.next.at + length (joined anchor_bytes r.value) = ap (λ (x : Cursor). x.at) t.next in
      let m : r.next.at - n.next.at ≡ length (joined anchor_bytes r.value) = omega arith in
      rw m (t.stands ∙ ap (joined anchor_bytes) (sym (anchors-in h)))

-- evidence by its byte
module _ (s : List ℕ) (c : Cursor) (k : Read ℕ) (e : k ≡ read_byte s c) where
  pub evidence-issuer : k.value ≡ 1 → read_evidence s c ≡ read_issuer s k.next
  unfolding read_evidence
  evidence-issuer h = rw (← e, h)

  pub evidence-state : k.value ≡ 3 → read_evidence s c ≡ read_backer_at s k.next
  unfolding read_evidence
  evidence-state h = rw (← e, h)

  pub evidence-plain : (k.value ≡ 1 → ⊥) → (k.value ≡ 3 → ⊥) → read_evidence s c ≡ record { value = cond (eqb k.value 2) backer missing; next = need k.next (eqb k.value 0 || eqb k.value 2) }
  unfolding read_evidence
  evidence-plain h l = rw (← e, ne_eqb k.value 1 h, ne_eqb k.value 3 l)

nothing-held : (s : List ℕ) → Holds s (record { from = 0; to = 0 })
unfolding part_of anchors_in joined
nothing-held s = refl

module _ (s : List ℕ) (c : Cursor) where
  pub issuer-read : Bytes s → (d : Cursor) (a : Read Part) → d ≡ (read_identifier s c).next → a ≡ passed_anchors s d → ReadAs s (record { value = E.Issuer c.at a.value; next = a.next }) (read_issuer s c)
  unfolding read_issuer read_identifier read_if passed_anchors
  issuer-read b d a ed ea =
      let n : a.next ≡ (read_anchors s d).next = ap (λ (x : Read Part). x.next) ea in
      record {
        next = rw (← ed) n;
        value = λ h.
            rw (← ed)
            (ap (issuer (read_matter s c.at))
            (ap (λ (x : Read Part). anchors_in s x.value) ea ∙ anchors-in s d b (rw n at h)));
        holds = λ h. subst (λ (x : Read Part). Holds s x.value) (sym ea) (anchors-hold s d b (rw n at h));
      }

  pub state-read : (d : Cursor) → d ≡ (read_registry s c).next → ReadAs s (record { value = E.BackerAt c; next = d }) (read_backer_at s c)
  unfolding read_backer_at
  state-read d e = record { next = e; value = λ h. refl; holds = λ h. nothing-held s }

  pub backer-read : (d : Cursor) → d ≡ c → ReadAs s (record { value = E.Backer; next = d }) (record { value = backer; next = c })
  backer-read d e = record { next = e; value = λ h. refl; holds = λ h. nothing-held s }

  pub missing-read : (d : Cursor) → d ≡ c → ReadAs s (record { value = E.Missing; next = d }) (record { value = missing; next = c })
  missing-read d e = record { next = e; value = λ h. refl; holds = λ h. nothing-held s }

-- what follows a test that fails does not matter
where-true : (t q : Bool) (x y : Decoded) → (t ≡ true → x ≡ y) → cond (t && q) x malformed ≡ cond (t && q) y malformed
where-true true q x y h = ap (λ (z : Decoded). cond q z malformed) (h refl)
where-true false q x y h = refl

-- where the sections begin
module _ (s : List ℕ) where
  abbrev source-at : Cursor
  source-at = (read_event s starting).next

  abbrev anchor-at : Cursor
  anchor-at = (section 1 read_source s source-at).next

  abbrev signature_at : Cursor
  signature_at = (read_anchors s anchor-at).next

  abbrev count_at : Cursor
  count_at = (section 64 read_signature s signature_at).next

  abbrev evidence-at : Cursor
  evidence-at = counted 1 s count_at

  -- a cursor that has not stopped at the end had not stopped before
  module _ (b : Bytes s) (v : Read EvidenceAt) (r : ReadAs s v (read_evidence s evidence-at)) (h : v.next.ok ≡ true) where
    count-ok : count_at.ok ≡ true
    count-ok = ((codes-after 1 (lit< tt) codes-evidence).sound s count_at b (rw r.next at h)).ok

    signature-ok : signature_at.ok ≡ true
    signature-ok = ((codes-section read_signature signature_bytes good_signature codes-signature 64 (lit< tt)).sound s signature_at b count-ok).ok

  parts-read : Bytes s → (v : Read EvidenceAt) → ReadAs s v (read_evidence s evidence-at) → cond (v.next.ok && eqb v.next.at (length s)) (decoded (record { event = (read_event s starting).value; source = (section 1 read_source s source-at).value; anchor = anchors_in s (passed_anchors s anchor-at).value; signatures = signatures_in s (passed_signatures s signature_at).value; evidence = evidence_in s v.value })) malformed ≡ decode_of s
  unfolding decode_of read_message
  parts-read b v r =
      rw (← r.next)
      (where-true v.next.ok _ _ _
      (λ h. rw (anchors-in s anchor-at b (signature-ok b v r h), signatures-in s signature_at b (count-ok b v r h), r.value h)))

  module _ (b : Bytes s) (e : Read Event) (o : Read (List Source)) (a : Read Part) (g : Read Counted) (d : Cursor) (v : Read EvidenceAt) (ee : e ≡ read_event s starting) (eo : o ≡ section 1 read_source s e.next) (ea : a ≡ passed_anchors s o.next) (eg : g ≡ passed_signatures s a.next) (ed : d ≡ counted 1 s g.next) (r : ReadAs s v (read_evidence s d)) where
    last-read : ReadAs s v (read_evidence s evidence-at)
    unfolding passed_anchors passed_signatures
    last-read = rw (ed, eg, ea, eo, ee) at r

    pub decode-read : (cond (v.next.ok && eqb v.next.at (length s)) (decoded (record { event = e.value; source = o.value; anchor = anchors_in s a.value; signatures = signatures_in s g.value; evidence = evidence_in s v.value })) malformed ≡ decode_of s) × ((v.next.ok && eqb v.next.at (length s)) ≡ true → Holds s a.value × Holds s (carried_in v.value))
    unfolding passed_anchors passed_signatures
    decode-read = (
      rw (eg, ea, eo, ee) (parts-read b v last-read),
      λ h.
          let k = and_left v.next.ok (eqb v.next.at (length s)) h in
          (rw (ea, eo, ee) (anchors-hold s anchor-at b (signature-ok b v last-read k)), r.holds k),
    )
