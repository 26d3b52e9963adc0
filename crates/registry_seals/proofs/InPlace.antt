-- A seal section whose one seal is compared where it stands.
--     in_place    the comparison is that of the seal that is read there
use Prim.Native.Nat.{ℕ}
use mathlib.Core.Path.{◌≡◌, refl}
use mathlib.Core.List.{List}
use mathlib.Core.Bool.{Bool, true, false, cond, ◌&&◌}
use lib.Dec.{eqb}
use lib.ListN.{length}
use Rattle.cesr_sn.specs.Numbers.{value, read_sn}
use Rattle.cesr.specs.Primitives.{read_matter, eq_matter}
use Rattle.cesr_sn.specs.declared.Sn.{Sn}
use Rattle.cesr.specs.declared.Matter.{Matter}
use Rattle.cesr.specs.declared.Said.{Said}
use Rattle.events_seal.specs.declared.Seal.TheVariants.{Digest, Root, Source as SourceSeal, Last, Back, Kind, Opaque}
use Rattle.events_seal.proofs.Identifiers.{matter-identifier}
use Rattle.codec_cursor.specs.declared.Cursor.{Cursor}
use Rattle.codec_cursor.specs.Readers.{advanced, read_byte, read_if, read_identifier, read_number, read_said}
use Rattle.codec_laws.specs.Events.{seal_of, read_event_seal, read_other_seal, read_seal}
use Rattle.registry_seals.specs.SealSections.{seals_event}

-- a seal that is no event seal is not the wanted one
other-by : (t1 t2 t3 t5 t6 t7 : Bool) (i : Matter) (s : Sn) (d : Said) → seals_event (cond t1 Digest (cond t2 Root (cond t3 SourceSeal (cond t5 Last (cond t6 Back (cond t7 Kind Opaque)))))) i s d ≡ false
other-by true t2 t3 t5 t6 t7 i s d = refl
other-by false true t3 t5 t6 t7 i s d = refl
other-by false false true t5 t6 t7 i s d = refl
other-by false false false true t6 t7 i s d = refl
other-by false false false false true t7 i s d = refl
other-by false false false false false true i s d = refl
other-by false false false false false false i s d = refl

other : (k : ℕ) (i : Matter) (s : Sn) (d : Said) → seals_event (seal_of k) i s d ≡ false
unfolding seal_of
other k i s d = other-by (eqb k 1) (eqb k 2) (eqb k 3) (eqb k 5) (eqb k 6) (eqb k 7) i s d

never : (t : Bool) → false ≡ (t && false)
never true = refl
never false = refl

module _ (b : List ℕ) (c : Cursor) (i : Matter) (s : Sn) (d : Said) where
  by_kind : (t : Bool) → eqb (read_byte b c).value 4 ≡ t
      → (t && (((read_said b (advanced b (read_identifier b (read_byte b c).next).next 16)).next.ok && eqb (read_said b (advanced b (read_identifier b (read_byte b c).next).next 16)).next.at (length b)) && (eq_matter (read_matter b (read_byte b c).next.at) i && (eqb (value (read_sn b (read_identifier b (read_byte b c).next).next.at)) (value s) && eq_matter (read_matter b (advanced b (read_identifier b (read_byte b c).next).next 16).at) d.0))))
      ≡ (((read_seal b c).next.ok && eqb (read_seal b c).next.at (length b)) && seals_event (read_seal b c).value i s d)
  unfolding read_seal read_event_seal read_other_seal read_identifier read_if read_number read_said
  by_kind true h = rw (h, matter-identifier)
  by_kind false h = rw (h, other) (never ((read_other_seal b c).next.ok && eqb (read_other_seal b c).next.at (length b)))

  pub in_place : (eqb (read_byte b c).value 4 && (((read_said b (advanced b (read_identifier b (read_byte b c).next).next 16)).next.ok && eqb (read_said b (advanced b (read_identifier b (read_byte b c).next).next 16)).next.at (length b)) && (eq_matter (read_matter b (read_byte b c).next.at) i && (eqb (value (read_sn b (read_identifier b (read_byte b c).next).next.at)) (value s) && eq_matter (read_matter b (advanced b (read_identifier b (read_byte b c).next).next 16).at) d.0))))
      ≡ (((read_seal b c).next.ok && eqb (read_seal b c).next.at (length b)) && seals_event (read_seal b c).value i s d)
  in_place = by_kind (eqb (read_byte b c).value 4) refl
