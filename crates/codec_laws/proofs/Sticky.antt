-- A cursor that has stopped stays so, whatever is read: a reader that ended well began well.
--     Sticky   a reader that gets on only from a cursor that has not stopped
--     sticky-both, sticky-mapped, sticky-after, sticky-ended, sticky-section, sticky-either
--              the ways in which readers are put together
--     sticky-byte, sticky-quad, sticky-number, sticky-said, sticky-identifier, sticky-byte-if, sticky-counted
--              the readers of the cursor
--     sticky-toad, sticky-configs, sticky-prefixes, sticky-event-seal, sticky-seal
--              the parts of an event
use Prim.Native.Nat.{ℕ, zero, suc}
use mathlib.Core.Path.{◌≡◌}
use mathlib.Core.Bool.{Bool, true, false, cond}
use mathlib.Core.List.{List}
use lib.Dec.{eqb}
use Rattle.codec.specs.declared.Matter.{Matter}
use Rattle.codec.specs.declared.Cursor.{Cursor}
use Rattle.codec.specs.Readers.{Reader, read_byte, read_quad, read_number, read_if, read_identifier, said_of, read_said, prefix_of, read_prefix, read_byte_if, counted, mapped, both, after, ended, times, count_up_to, section}
use Rattle.codec.specs.declared.Read.{Read}
use Rattle.codec.specs.Events.{is_config, read_config, read_toad, event_seal, read_event_seal, read_other_seal, read_seal, read_configs, read_prefixes}
use Rattle.codec_laws.proofs.Stands.{went, passed}

pub record Sticky {A : Type 0} (p : Reader A) : Type 0 where
  pub before : (s : List ℕ) (c : Cursor) → (p s c).next.ok ≡ true → c.ok ≡ true

-- readers put together
pub sticky-both : {A B : Type 0} {p : Reader A} {q : Reader B} → Sticky p → Sticky q → Sticky (both p q)
sticky-both {A} {B} {p} {q} j k = record { before = λ s c h. j.before s c (k.before s (p s c).next h) }

pub sticky-mapped : {A B : Type 0} {p : Reader A} (f : A → B) → Sticky p → Sticky (mapped f p)
sticky-mapped f k = record { before = k.before }

sticky-times : {A : Type 0} {p : Reader A} → Sticky p → (n : ℕ) → Sticky (times n p)
unfolding times
sticky-times k zero = record { before = λ s c h. h }
sticky-times {A} {p} k (suc n) = record { before = λ s c h. (sticky-times k n).before s c (k.before s (times n p s c).next h) }

-- the readers of the cursor
pub sticky-byte : Sticky read_byte
unfolding read_byte
sticky-byte = record { before = λ s c h. (went s c 1 h).ok }

pub sticky-quad : Sticky read_quad
unfolding read_quad
sticky-quad = record { before = λ s c h. (went s c 4 h).ok }

pub sticky-number : Sticky read_number
unfolding read_number
sticky-number = record { before = λ s c h. (went s c 16 h).ok }

sticky-if : (test : Matter → Bool) → Sticky (read_if test)
unfolding read_if
sticky-if test = record { before = λ s c h. (went s c 33 (passed _ _ h).ok).ok }

pub sticky-said : Sticky read_said
unfolding read_said
sticky-said = sticky-mapped said_of (sticky-if _)

sticky-prefix : Sticky read_prefix
unfolding read_prefix
sticky-prefix = sticky-mapped prefix_of (sticky-if _)

pub sticky-identifier : Sticky read_identifier
unfolding read_identifier
sticky-identifier = sticky-if _

pub sticky-byte-if : (test : ℕ → Bool) → Sticky (read_byte_if test)
unfolding read_byte_if
sticky-byte-if test = record { before = λ s c h. sticky-byte.before s c (passed _ _ h).ok }

pub sticky-counted : (n : ℕ) (s : List ℕ) (c : Cursor) → (counted n s c).ok ≡ true → c.ok ≡ true
unfolding counted
sticky-counted n s c h = sticky-byte.before s c (passed _ _ h).ok

pub sticky-after : {A : Type 0} {p : Reader A} (n : ℕ) → Sticky p → Sticky (after n p)
sticky-after n k = record { before = λ s c h. sticky-counted n s c (k.before s (counted n s c) h) }

pub sticky-ended : {A : Type 0} {p : Reader A} (n : ℕ) → Sticky p → Sticky (ended p n)
sticky-ended {A} {p} n k = record { before = λ s c h. k.before s c (sticky-counted n s (p s c).next h) }

pub sticky-section : {A : Type 0} {p : Reader A} (limit : ℕ) → Sticky p → Sticky (section limit p)
unfolding section count_up_to
sticky-section limit k = record {
  before = λ s c h.
      let n = count_up_to limit s c in
      sticky-byte.before s c (passed _ _ ((sticky-times k n.value).before s n.next h)).ok;
}

-- one of two, by a test
pub sticky-either : {A : Type 0} (c : Cursor) (x y : Read A) (t : Bool) → (x.next.ok ≡ true → c.ok ≡ true) → (y.next.ok ≡ true → c.ok ≡ true) → (cond t x y).next.ok ≡ true → c.ok ≡ true
sticky-either c x y true h k e = h e
sticky-either c x y false h k e = k e

-- the parts of an event
pub sticky-toad : Sticky read_toad
unfolding read_toad
sticky-toad = record { before = λ s c h. sticky-number.before s c (passed _ _ h).ok }

pub sticky-configs : Sticky read_configs
unfolding read_configs read_config
sticky-configs = sticky-section 8 (sticky-byte-if is_config)

pub sticky-prefixes : Sticky read_prefixes
unfolding read_prefixes
sticky-prefixes = sticky-section 16 sticky-prefix

pub sticky-event-seal : Sticky read_event_seal
unfolding read_event_seal
sticky-event-seal = sticky-mapped event_seal (sticky-both sticky-identifier (sticky-both sticky-number sticky-said))

pub sticky-seal : Sticky read_seal
unfolding read_seal read_other_seal
sticky-seal = record {
  before = λ s c.
      sticky-either c _ _ (eqb (read_byte s c).value 4)
      (λ h. sticky-byte.before s c (sticky-event-seal.before s (read_byte s c).next h))
      ((sticky-byte-if _).before s c);
}
