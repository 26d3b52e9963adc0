-- An anchoring event in its own bytes.
--     seals-behind     the seals stand behind prefix, sn and said
--     event-head       prefix, sn and said are read where they stand
--     chosen-events    what is chosen of two events in bytes is what is chosen of the events
--     used-event       the same of two parts of an attempt
--     part-within      what is there of a part is the part
--     event-seals      its seal section is the wanted one exactly when the list of its seals is
use Prim.Native.Nat.{ℕ, ◌+◌, ◌-◌, min}
use mathlib.Core.Path.{◌≡◌, refl, ap, sym, subst, ◌∙◌}
use mathlib.Core.List.{List, [], ◌∷◌, ◌++◌, append_assoc, append-nil}
use mathlib.Core.Bool.{true, ◌&&◌}
use native.Mathlib.Omega.{arith}
use native.Mathlib.Decide.{dec_lt}
use borrow.Author.Tests.{ne_eqb}
use lib.Dec.{leb}
use lib.ListN.{length, take, drop, length-append, length-take, length-drop, drop_of_length-le, get_or-eq_default}
use lib.Seq.{drop_at, get_or-take, get_or-drop, take_all, take-nil}
use Rattle.laws.specs.Number.{Bytes}
use Rattle.laws.proofs.Tests.{and_left, and_right}
use Rattle.cesr_sn.specs.Numbers.{read_sn, sn_bytes}
use Rattle.cesr.specs.Primitives.{read_matter, matter_bytes}
use Rattle.cesr_sn.specs.declared.Sn.{Sn}
use Rattle.cesr.specs.declared.Matter.{Matter}
use Rattle.cesr.specs.declared.Said.{Said}
use Rattle.cesr.proofs.Matters.{length-matter}
use Rattle.codec_cursor.specs.Readers.{placed, starting, read_number, read_if, read_identifier, read_said}
use Rattle.codec_cursor.specs.declared.Read.{Read}
use Rattle.codec.specs.Layout.{joined, section_bytes, all, said_bytes, seal_bytes, good_identifier, good_sn, good_said, good_seal}
use Rattle.registry_seals.proofs.Stands.{Stands, stands-first, stands-rest, whole-stands}
use Rattle.registry_seals.proofs.Codes.{codes-sn, codes-said, codes-identifier}
use Rattle.registry_state.proofs.HeadWrites.{length-sn}
use Rattle.registry_wire.specs.Attempts.{Anchor, anchor_bytes, good_anchor, chosen_anchors, anchors_in, part_of, Holds}
use Rattle.registry_seals.specs.SealSections.{chosen, seal_section, only_seal, anchor_seals}
use Rattle.registry_wire.specs.declared.Part.{Part}
use Rattle.registry_wire.proofs.AttemptLaws.{anchor-some}
use Rattle.registry_seals.proofs.OnlySeal.{only-seal}

pub seals-behind : (a : Anchor) → seal_section (anchor_bytes a) ≡ section_bytes seal_bytes a.seals
unfolding seal_section
seals-behind a =
    let head = matter_bytes a.prefix ++ (sn_bytes a.sn ++ said_bytes a.said) in
    let n : length head ≡ 82 = simp (length-append, length-matter, length-sn) in
    let e : anchor_bytes a ≡ head ++ section_bytes seal_bytes a.seals = rw (append_assoc, append_assoc) in
    rw e (drop_at head (section_bytes seal_bytes a.seals) 82 n)

pub event-head : (a : Anchor) → good_anchor a ≡ true → (read_matter (anchor_bytes a) 0 ≡ a.prefix) × ((read_sn (anchor_bytes a) 33 ≡ a.sn) × (read_matter (anchor_bytes a) 49 ≡ a.said.0))
unfolding good_anchor read_identifier read_said read_if read_number
event-head a g =
    let b = anchor_bytes a in
    let p = matter_bytes a.prefix in
    let n = sn_bytes a.sn in
    let d = said_bytes a.said in
    let x = section_bytes seal_bytes a.seals in
    let good-x = leb (length a.seals) 8 && all good_seal a.seals in
    let good-d = good_said a.said && good-x in
    let g1 = and_right (good_identifier a.prefix) (good_sn a.sn && good-d) g in
    let at_n : Stands b 33 (n ++ (d ++ x)) = subst (λ (k : ℕ). Stands b (0 + k) (n ++ (d ++ x))) (length-matter a.prefix) (stands-rest b 0 p (n ++ (d ++ x)) (whole-stands b)) in
    let at-d : Stands b 49 (d ++ x) = subst (λ (k : ℕ). Stands b (33 + k) (d ++ x)) (length-sn a.sn) (stands-rest b 33 n (d ++ x) at_n) in
    let r1 = codes-identifier.complete b starting a.prefix refl (stands-first b 0 p (n ++ (d ++ x)) (whole-stands b)) (and_left (good_identifier a.prefix) (good_sn a.sn && good-d) g) in
    let r2 = codes-sn.complete b (placed 33) a.sn refl (stands-first b 33 n (d ++ x) at_n) (and_left (good_sn a.sn) good-d g1) in
    let r3 = codes-said.complete b (placed 49) a.said refl (stands-first b 49 d x at-d) (and_left (good_said a.said) good-x (and_right (good_sn a.sn) good-d g1)) in
    (ap (λ (r : Read Matter). r.value) r1, (ap (λ (r : Read Sn). r.value) r2, ap (λ (r : Read Said). r.value.0) r3))

pub chosen-events : (l m : List Anchor) → chosen (joined anchor_bytes l) (joined anchor_bytes m) ≡ joined anchor_bytes (chosen_anchors l m)
unfolding chosen joined
chosen-events [] m = refl
chosen-events (x ∷ l) m =
    let n = length (anchor_bytes x ++ joined anchor_bytes l) in
    rw (ne_eqb n 0 (λ e. omega (arith, anchor-some x, length-append (anchor_bytes x) (joined anchor_bytes l))))

-- of the parts of an attempt
pub used-event : (s : List ℕ) (p q : Part) → Holds s p → Holds s q → chosen (part_of s p) (part_of s q) ≡ joined anchor_bytes (chosen_anchors (anchors_in s p) (anchors_in s q))
used-event s p q g h = rw (g, h) (chosen-events (anchors_in s p) (anchors_in s q))

pub one-event : (a : Anchor) → joined anchor_bytes (a ∷ []) ≡ anchor_bytes a
unfolding joined
one-event a = append-nil (anchor_bytes a)

-- parts of bytes are bytes
drop-bytes : (n : ℕ) (s : List ℕ) → Bytes s → Bytes (drop n s)
drop-bytes n s b i = rw get_or-drop (b (n + i))

take-bytes : (n : ℕ) (s : List ℕ) → Bytes s → Bytes (take n s)
take-bytes n s b i =
    elim (dec_lt i n) [
      | yes l ↦ rw (get_or-take n s i 0 l) (b i)
      | no l ↦ rw (get_or-eq_default (take n s) 0 {n = i} (rw length-take (omega arith))) (omega arith)
    ]

-- what is there of a part is the part
pub part-within : (s : List ℕ) (p : Part) (to from : ℕ) → to ≡ min p.to (length s) → from ≡ min p.from to → take (to - from) (drop from s) ≡ part_of s p
unfolding part_of
part-within s p to from e f =
    elim (dec_lt to p.from) [
      | yes l ↦
          let z : to - from ≡ 0 = omega (arith, e, f) in
          elim (dec_lt (length s) p.to) [
            | yes m ↦ rw (z, drop_of_length-le s {i = p.from} (omega (arith, e)), take-nil (p.to - p.from))
            | no m ↦ let y : p.to - p.from ≡ 0 = omega (arith, e) in rw (z, y)
          ]
      | no l ↦
          let x : from ≡ p.from = omega (arith, f) in
          elim (dec_lt (length s) p.to) [
            | yes m ↦
                let y : to ≡ length s = omega (arith, e) in
                let d = drop p.from s in
                rw (x, y) (take_all (length s - p.from) d (rw length-drop (omega arith)) ∙ sym (take_all (p.to - p.from) d (rw length-drop (omega arith))))
            | no m ↦ let y : to ≡ p.to = omega (arith, e) in rw (x, y)
          ]
    ]

pub part_bytes : (s : List ℕ) (p : Part) → Bytes s → Bytes (part_of s p)
unfolding part_of
part_bytes s p b = take-bytes (p.to - p.from) (drop p.from s) (drop-bytes p.from s b)

section-bytes : (e : List ℕ) → Bytes e → Bytes (seal_section e)
unfolding seal_section
section-bytes e b = drop-bytes 82 e b

pub event-seals : (a : Anchor) (i : Matter) (n : Sn) (d : Said) → Bytes (anchor_bytes a) → good_anchor a ≡ true → anchor_seals (seal_section (anchor_bytes a)) i n d ≡ only_seal a.seals i n d
unfolding good_anchor
event-seals a i n d b g =
    let good-x = leb (length a.seals) 8 && all good_seal a.seals in
    let g1 = and_right (good_identifier a.prefix) (good_sn a.sn && (good_said a.said && good-x)) g in
    let g2 = and_right (good_said a.said) good-x (and_right (good_sn a.sn) (good_said a.said && good-x) g1) in
    rw (seals-behind a) (only-seal a.seals i n d (subst Bytes (seals-behind a) (section-bytes (anchor_bytes a) b)) g2)
