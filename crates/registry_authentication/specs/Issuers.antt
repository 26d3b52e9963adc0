-- The issuer's evidence and the anchoring event (docs/RULES.md, "Evidence", "Anchoring events").
use Rattle.std.specs.Prelude.{ℕ, List, [], ◌∷◌, Bool, false, cond, ◌&&◌, eqb, length}
use Rattle.cesr_sn.specs.Numbers.{value, read_sn}
use Rattle.cesr.specs.Primitives.{eq_matter, eq_said, read_matter}
use Rattle.cesr_sn.specs.declared.Sn.{Sn}
use Rattle.cesr.specs.declared.Matter.{Matter}
use Rattle.cesr.specs.declared.Said.{Said}
use Rattle.registry_wire.specs.Attempts.{Anchor, Evidence, Message, chosen_anchors}
use Rattle.registry_seals.specs.SealSections.{only_seal, seal_section, anchor_seals}
use Rattle.registry_wire.specs.Attempts.Evidence.{missing, issuer, backer, backer_at}
use Rattle.registry_wire.specs.declared.Source.{Source}
use Rattle.registry_error.specs.declared.RegistryRejection.TheVariants.{MissingIssuer, InconsistentIssuer, MissingAnchor, InconsistentAnchor}
use Rattle.registry_error.specs.Errors.{Answer}
use Rattle.std.specs.Prelude.{Ok, Err}
use Rattle.registry_answer.specs.Answers.{accept_if, first_of}

-- 18 or 19: the evidence that is due is Issuer
abbrev pub issuer_kind : Evidence → Answer
issuer_kind missing = Err MissingIssuer
issuer_kind (issuer prefix anchor) = Ok tt
issuer_kind backer = Err InconsistentIssuer
issuer_kind (backer_at state) = Err InconsistentIssuer

-- whether its prefix is this one
abbrev pub names_issuer : Evidence → Matter → Bool
names_issuer missing i = false
names_issuer (issuer prefix anchor) i = eq_matter prefix i
names_issuer backer i = false
names_issuer (backer_at state) i = false

-- the anchoring event that it carries, or none
abbrev pub carried_by : Evidence → List Anchor
carried_by missing = []
carried_by (issuer prefix anchor) = anchor
carried_by backer = []
carried_by (backer_at state) = []

-- of vrt, iss and rev: the evidence's anchoring event where it carries one, else the message's
abbrev pub used_anchors : Message → List Anchor
used_anchors m = chosen_anchors (carried_by m.evidence) m.anchor

-- 20: no source, or no anchoring event; 21: it is the issuer's, at the source's sn and said, and its one seal is the event's
abbrev pub anchored : Matter → Said → Sn → Said → List Source → List Anchor → Answer
anchored i id sn said [] anchors = Err MissingAnchor
anchored i id sn said (x ∷ l) [] = Err MissingAnchor
anchored i id sn said (x ∷ l) (a ∷ k) =
    accept_if
    ((eq_matter a.prefix i && (eqb (value a.sn) (value x.sn) && eq_said a.said x.said)) && only_seal a.seals id.0 sn said)
    InconsistentAnchor

-- 18 to 21 of vrt, iss and rev
unfoldable pub authenticate_issuer : Matter → Said → Sn → Said → Message → Answer
authenticate_issuer i id sn said m =
    first_of
    (issuer_kind m.evidence
    ∷ accept_if (names_issuer m.evidence i) InconsistentIssuer
    ∷ anchored i id sn said m.source (used_anchors m)
    ∷ [])

-- 20 and 21 of an anchoring event in bytes: its prefix, sn and said stand in front of its seals
abbrev pub anchored_in : Matter → Said → Sn → Said → List Source → List ℕ → Answer
anchored_in i id sn said [] event = Err MissingAnchor
anchored_in i id sn said (x ∷ l) event =
    cond (eqb (length event) 0) (Err MissingAnchor)
    (accept_if
    ((eq_matter (read_matter event 0) i && (eqb (value (read_sn event 33)) (value x.sn) && eq_matter (read_matter event 49) x.said.0))
    && anchor_seals (seal_section event) id.0 sn said)
    InconsistentAnchor)

-- 18 to 21 of vrt, iss and rev, of an anchoring event in bytes
unfoldable pub authenticate_in : Matter → Said → Sn → Said → Evidence → List Source → List ℕ → Answer
authenticate_in i id sn said e sources event =
    first_of
    (issuer_kind e
    ∷ accept_if (names_issuer e i) InconsistentIssuer
    ∷ anchored_in i id sn said sources event
    ∷ [])
