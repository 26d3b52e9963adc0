-- A cursor that has stopped stays so, whatever part of an attempt behind its event is read.
--     sticky-sections  all that stands behind the event
use lib.Dec.{leb, eqb}
use Rattle.codec_cursor.specs.Readers.{read_byte, both, after, section}
use Rattle.registry_seals.proofs.Stands.{passed}
use Rattle.registry_seals.proofs.Sticky.{Sticky, sticky-both, sticky-mapped, sticky-byte, sticky-quad, sticky-number, sticky-said, sticky-identifier, sticky-byte-if, sticky-after, sticky-section, sticky-either, sticky-seal}
use Rattle.registry_state.proofs.StickyState.{sticky-registry}
use Rattle.registry_source.specs.Sources.{source_of, read_source}
use Rattle.registry_signatures.specs.SignatureSections.{signature_of, read_signature}
use Rattle.registry_wire.specs.Attempts.{read_seals, anchor_of, read_anchor, read_anchors, read_issuer, read_backer_at, read_evidence}

sticky-anchors : Sticky read_anchors
unfolding read_anchors read_anchor read_seals
sticky-anchors =
    sticky-section 1 (sticky-mapped anchor_of (sticky-both sticky-identifier (sticky-both sticky-number (sticky-both sticky-said (sticky-section 8 sticky-seal)))))

sticky-evidence : Sticky read_evidence
unfolding read_evidence read_issuer read_backer_at
sticky-evidence = record {
  before = λ s c.
      let behind = sticky-byte.before s c in
      sticky-either c _ _ (eqb (read_byte s c).value 1)
      (λ h. behind ((sticky-both sticky-identifier sticky-anchors).before s (read_byte s c).next h))
      (sticky-either c _ _ (eqb (read_byte s c).value 3) (λ h. behind (sticky-registry.before s (read_byte s c).next h)) (λ h. behind (passed _ _ h).ok));
}

pub sticky-sections : Sticky (both (section 1 read_source) (both read_anchors (both (section 64 read_signature) (after 1 read_evidence))))
unfolding read_source read_signature
sticky-sections =
    sticky-both (sticky-section 1 (sticky-mapped source_of (sticky-both sticky-number sticky-said)))
    (sticky-both sticky-anchors
    (sticky-both (sticky-section 64 (sticky-mapped signature_of (sticky-both sticky-quad (sticky-byte-if (λ v. leb v 1))))) (sticky-after 1 sticky-evidence)))
