-- The anchoring event that is used, and its seals, in bytes (docs/RULES.md, "Anchoring events").
use Rattle.std.specs.Prelude.{ℕ, List, [], ◌∷◌, Bool, false, cond, ◌&&◌, eqb, length, drop}
use Rattle.cesr_sn.specs.Numbers.{value}
use Rattle.cesr.specs.Primitives.{eq_matter, eq_said}
use Rattle.cesr_sn.specs.declared.Sn.{Sn}
use Rattle.cesr.specs.declared.Matter.{Matter}
use Rattle.cesr.specs.declared.Said.{Said}
use Rattle.events_seal.specs.Identifiers.{matter_of}
use Rattle.events_seal.specs.declared.Seal.{Seal}
use Rattle.events_seal.specs.declared.Seal.TheVariants.{Digest, Root, Source as SourceSeal, Event as EventSeal, Last, Back, Kind, Opaque}
use Rattle.codec_cursor.specs.Readers.{starting, counted}
use Rattle.codec_laws.specs.Events.{read_seal}

-- of two events in bytes the one that is used: the evidence's where it carries one, else the message's
unfoldable pub chosen : List ℕ → List ℕ → List ℕ
chosen evidence message = cond (eqb (length evidence) 0) message evidence

-- what stands behind the prefix, sn and said of an anchoring event
unfoldable pub seal_section : List ℕ → List ℕ
seal_section event = drop 82 event

unfoldable pub chosen_seals : List ℕ → List ℕ → List ℕ
chosen_seals evidence message = seal_section (chosen evidence message)

-- whether a seal is the event seal with this i, s and d
abbrev pub seals_event : Seal → Matter → Sn → Said → Bool
seals_event Digest i s d = false
seals_event Root i s d = false
seals_event SourceSeal i s d = false
seals_event (EventSeal j t e) i s d = eq_matter (matter_of j) i && (eqb (value t) (value s) && eq_said e d)
seals_event Last i s d = false
seals_event Back i s d = false
seals_event Kind i s d = false
seals_event Opaque i s d = false

-- exactly one seal, and that one the wanted
abbrev pub only_seal : List Seal → Matter → Sn → Said → Bool
only_seal [] i s d = false
only_seal (x ∷ []) i s d = seals_event x i s d
only_seal (x ∷ (y ∷ l)) i s d = false

-- the same of a seal section in bytes
unfoldable pub anchor_seals : List ℕ → Matter → Sn → Said → Bool
anchor_seals b i s d =
    let r = read_seal b (counted 1 b starting) in
    (r.next.ok && eqb r.next.at (length b)) && seals_event r.value i s d
