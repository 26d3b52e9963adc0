-- Attempts: their layout and limits (docs/RULES.md, "Bytes"), and how they are read.
use Rattle.std.specs.Prelude.{ℕ, ◌-◌, ◌≡◌, List, [], ◌∷◌, ◌++◌, Bool, true, cond, ◌&&◌, ◌||◌, leb, eqb, length, take, drop, Option, None, Some}
use Rattle.cesr_sn.specs.Numbers.{sn_bytes}
use Rattle.cesr.specs.Primitives.{matter_bytes, read_matter}
use Rattle.cesr_sn.specs.declared.Sn.{Sn}
use Rattle.cesr.specs.declared.Matter.{Matter}
use Rattle.cesr.specs.declared.Said.{Said}
use Rattle.codec.specs.TelEvents.{Event, view_event}
use Rattle.events_seal.specs.declared.Seal.{Seal}
use Rattle.codec_cursor.specs.Readers.{Reader, placed, starting, need, read_byte, read_number, read_identifier, read_said, mapped, both, after, count_up_to, section}
use Rattle.codec_cursor.specs.declared.Read.{Read}
use Rattle.codec.specs.Events.{read_seal, read_event}
use Rattle.codec.specs.Layout.{joined, section_bytes, all, said_bytes, seal_bytes, event_bytes, good_said, good_identifier, good_sn, good_seal, good_event}
use Rattle.registry_state.specs.States.{Registry, registry_bytes, good_registry, read_registry}
use Rattle.registry_source.specs.Sources.{source_bytes, good_source, read_source, sources_in}
use Rattle.registry_source.specs.declared.Source.{Source}
use Rattle.registry_signatures.specs.SignatureSections.{signature_bytes, good_signature, read_signature, signatures_in}
use Rattle.registry_signatures.specs.declared.Signature.{Signature}
use Rattle.registry_wire.specs.declared.Part.{Part}
use Rattle.registry_wire.specs.declared.Attempt.{Attempt}
use Rattle.registry_wire.specs.declared.EvidenceAt.{EvidenceAt}
use Rattle.registry_wire.specs.declared.EvidenceAt.TheVariants as E

-- an anchoring event
pub record Anchor : Type 0 where
  pub prefix : Matter
  pub sn : Sn
  pub said : Said
  pub seals : List Seal

-- what the caller knows about the issuer or the backers
pub data Evidence : Type 0 where
  missing : Evidence
  -- the prefix, and the anchoring event or none
  issuer : Matter → List Anchor → Evidence
  backer : Evidence
  backer_at : Registry → Evidence

-- what an attempt's bytes say; source and anchor have at most one element
pub record Message : Type 0 where
  pub event : Event
  pub source : List Source
  pub anchor : List Anchor
  pub signatures : List Signature
  pub evidence : Evidence

abbrev pub anchor_bytes : Anchor → List ℕ
anchor_bytes x = matter_bytes x.prefix ++ (sn_bytes x.sn ++ (said_bytes x.said ++ section_bytes seal_bytes x.seals))

abbrev pub evidence_bytes : Evidence → List ℕ
evidence_bytes missing = 0 ∷ []
evidence_bytes (issuer prefix anchor) = 1 ∷ matter_bytes prefix ++ section_bytes anchor_bytes anchor
evidence_bytes backer = 2 ∷ []
evidence_bytes (backer_at state) = 3 ∷ registry_bytes state

-- the whole attempt: the event's kind and six sections, then source, anchoring event, signatures and evidence
unfoldable pub attempt_bytes : Message → List ℕ
attempt_bytes a =
    event_bytes a.event
    ++ (section_bytes source_bytes a.source
    ++ (section_bytes anchor_bytes a.anchor ++ (section_bytes signature_bytes a.signatures ++ section_bytes evidence_bytes (a.evidence ∷ []))))

-- the limits: at most 8 seals, 64 signatures, one source, one anchoring event
unfoldable pub good_anchor : Anchor → Bool
good_anchor x =
    good_identifier x.prefix && (good_sn x.sn && (good_said x.said && (leb (length x.seals) 8 && all good_seal x.seals)))

unfoldable pub good_anchors : List Anchor → Bool
good_anchors l = leb (length l) 1 && all good_anchor l

abbrev pub good_evidence : Evidence → Bool
good_evidence missing = true
good_evidence (issuer prefix anchor) = good_identifier prefix && good_anchors anchor
good_evidence backer = true
good_evidence (backer_at state) = good_registry state

unfoldable pub good_message : Message → Bool
good_message a =
    good_event a.event
    && ((leb (length a.source) 1 && all good_source a.source)
    && (good_anchors a.anchor && ((leb (length a.signatures) 64 && all good_signature a.signatures) && good_evidence a.evidence)))

-- how the parts are read
unfoldable pub read_seals : Reader (List Seal)
read_seals s c = section 8 read_seal s c

abbrev pub anchor_of : Matter × (Sn × (Said × List Seal)) → Anchor
anchor_of t = record { prefix = t.0; sn = t.1.0; said = t.1.1.0; seals = t.1.1.1 }

unfoldable pub read_anchor : Reader Anchor
read_anchor s c = mapped anchor_of (both read_identifier (both read_number (both read_said read_seals))) s c

unfoldable pub read_anchors : Reader (List Anchor)
read_anchors s c = section 1 read_anchor s c

abbrev pub issuer_of : Matter × List Anchor → Evidence
issuer_of t = issuer t.0 t.1

unfoldable pub read_issuer : Reader Evidence
read_issuer s c = mapped issuer_of (both read_identifier read_anchors) s c

unfoldable pub read_backer_at : Reader Evidence
read_backer_at s c = mapped backer_at read_registry s c

unfoldable pub read_evidence : Reader Evidence
read_evidence s c =
    cond (eqb (read_byte s c).value 1) (read_issuer s (read_byte s c).next)
    (cond (eqb (read_byte s c).value 3) (read_backer_at s (read_byte s c).next)
    (record { value = cond (eqb (read_byte s c).value 2) backer missing; next = need (read_byte s c).next (eqb (read_byte s c).value 0 || eqb (read_byte s c).value 2) }))

abbrev pub message_of : Event × (List Source × (List Anchor × (List Signature × Evidence))) → Message
message_of t = record { event = t.0; source = t.1.0; anchor = t.1.1.0; signatures = t.1.1.1.0; evidence = t.1.1.1.1 }

unfoldable pub read_message : Reader Message
read_message s c =
    mapped message_of (both read_event (both (section 1 read_source) (both read_anchors (both (section 64 read_signature) (after 1 read_evidence))))) s c

-- the answer of the decoder
pub data Decoded : Type 0 where
  malformed : Decoded
  decoded : Message → Decoded

-- an attempt's bytes, with nothing behind section 10
unfoldable pub decode_of : List ℕ → Decoded
decode_of s =
    cond ((read_message s starting).next.ok && eqb (read_message s starting).next.at (length s)) (decoded (read_message s starting).value) malformed

-- what the code's struct stands for, over the bytes that it was read from
unfoldable pub anchors_in : List ℕ → Part → List Anchor
anchors_in s p = cond (eqb p.from p.to) [] ((read_anchor s (placed p.from)).value ∷ [])

-- by the evidence's kind: of Issuer the prefix and what its part holds, of BackerAt the state
abbrev pub evidence_in : List ℕ → EvidenceAt → Evidence
evidence_in s E.Missing = missing
evidence_in s (E.Issuer prefix carried) = issuer (read_matter s prefix) (anchors_in s carried)
evidence_in s E.Backer = backer
evidence_in s (E.BackerAt c) = backer_at (read_registry s c).value

abbrev pub view_attempt : List ℕ → Attempt → Message
view_attempt s a =
    record
    { event = view_event s a.event; source = sources_in s a.source; anchor = anchors_in s a.anchor; signatures = signatures_in s a.signatures; evidence = evidence_in s a.evidence }

abbrev pub view_decoded : List ℕ → Option Attempt → Decoded
view_decoded s None = malformed
view_decoded s (Some a) = decoded (view_attempt s a)

-- the anchoring event that is used: the evidence's where it carries one, else the message's
abbrev pub chosen_anchors : List Anchor → List Anchor → List Anchor
chosen_anchors [] message = message
chosen_anchors (x ∷ l) message = x ∷ l

-- where a section's anchoring event stands, behind the count byte, and the cursor behind them
unfoldable pub passed_anchors : Reader Part
passed_anchors s c = record { value = record { from = (count_up_to 1 s c).next.at; to = (read_anchors s c).next.at }; next = (read_anchors s c).next }

-- the bytes of a part
unfoldable pub part_of : List ℕ → Part → List ℕ
part_of s p = take (p.to - p.from) (drop p.from s)

-- a part that holds the anchoring event that it stands for, and nothing else
abbrev pub Holds : List ℕ → Part → Type 0
Holds s p = part_of s p ≡ joined anchor_bytes (anchors_in s p)

-- the part of the evidence that carries an anchoring event, which is empty where none is carried
abbrev pub carried_in : EvidenceAt → Part
carried_in E.Missing = record { from = 0; to = 0 }
carried_in (E.Issuer prefix carried) = carried
carried_in E.Backer = record { from = 0; to = 0 }
carried_in (E.BackerAt c) = record { from = 0; to = 0 }

-- evidence that was read: the cursor behind it, and, where that has not stopped, what it stands for
pub record ReadAs (s : List ℕ) (r : Read EvidenceAt) (e : Read Evidence) : Type 0 where
  pub next : r.next ≡ e.next
  pub value : r.next.ok ≡ true → evidence_in s r.value ≡ e.value
  pub holds : r.next.ok ≡ true → Holds s (carried_in r.value)

-- what is known of the parts of an attempt that was decoded: each holds its anchoring event, at most one and within the limits
pub record Anchored (s : List ℕ) (a : Attempt) : Type 0 where
  pub message : Holds s a.anchor
  pub good-message : good_anchors (anchors_in s a.anchor) ≡ true
  pub carried : Holds s (carried_in a.evidence)
  pub good-carried : good_anchors (anchors_in s (carried_in a.evidence)) ≡ true
