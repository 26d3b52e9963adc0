-- Registries that were read with no fault are well formed.
--     Tells            a cursor behind a reader that has not stopped: the reader's own had not, and the value passes a test
--     tells-registry   the letters and config bytes of a registry that was read
--     stored-held      the registries that were stored, as a ledger holds them
--     section-read     the image's section, and the registries behind its count
use Prim.Native.Nat.{ℕ, zero, suc, ◌≤◌, min}
use mathlib.Core.Path.{◌≡◌, refl, ap, ◌∙◌}
use mathlib.Core.Bool.{Bool, true, ◌&&◌}
use mathlib.Core.List.{List, [], ◌∷◌, map}
use borrow.Author.Tests.{leb-true}
use lib.Dec.{leb}
use lib.ListN.{length, take}
use Rattle.laws.specs.Number.{number_at}
use Rattle.laws.proofs.Tests.{and_left, and_right}
use Rattle.cesr.specs.Primitives.{is_basic, is_said, read_matter}
use Rattle.cesr.specs.declared.Matter.{Matter}
use Rattle.codec_cursor.specs.Readers.{Reader, starting, placed, advanced, read_byte, read_quad, read_number, read_if, is_identifier, read_identifier, read_said, read_prefix, read_byte_if, both, times, count_up_to, section}
use Rattle.codec_cursor.specs.declared.Cursor.{Cursor}
use Rattle.codec.specs.Events.{is_config, read_config, read_configs, read_prefixes}
use Rattle.codec.specs.Layout.{all}
use Rattle.codec_laws.proofs.Stands.{went, passed}
use Rattle.codec_laws.proofs.Codes.{and-true}
use Rattle.codec_laws.proofs.CodesList.{all_snoc}
use Rattle.registry_state.specs.States.{Registry, read_registry, is_backer}
use Rattle.registry_state.specs.declared.RegistryState.{RegistryState}
use Rattle.ledger_step.specs.Ledgers.{held_of}
use Rattle.ledger_step.specs.Steps.{held_now}
use Rattle.ledger_image.specs.Images.{wide_count, wide_section, read_registries}
use Rattle.ledger_sections.specs.RegistrySections.{registries_in, well_letters, held_read, Stored}

record Tells {A : Type 0} (p : Reader A) (good : A → Bool) : Type 0 where
  says : (s : List ℕ) (c : Cursor) → (p s c).next.ok ≡ true → (c.ok ≡ true) × (good (p s c).value ≡ true)

-- a value of which nothing is asked
abbrev any : {A : Type 0} → A → Bool
any x = true

tells-byte : Tells read_byte any
unfolding read_byte
tells-byte = record { says = λ s c h. ((went s c 1 h).ok, refl) }

tells-quad : Tells read_quad any
unfolding read_quad
tells-quad = record { says = λ s c h. ((went s c 4 h).ok, refl) }

tells-number : Tells read_number any
unfolding read_number
tells-number = record { says = λ s c h. ((went s c 16 h).ok, refl) }

tells-if : (test : Matter → Bool) → Tells (read_if test) test
unfolding read_if
tells-if test =
    record { says = λ s c h. let w = passed (advanced s c 33) (test (read_matter s c.at)) h in ((went s c 33 w.ok).ok, w.test) }

tells-byte-if : (test : ℕ → Bool) → Tells (read_byte_if test) test
unfolding read_byte_if
tells-byte-if test =
    record { says = λ s c h. let w = passed (read_byte s c).next (test (read_byte s c).value) h in ((tells-byte.says s c w.ok).0, w.test) }

tells-count : (limit : ℕ) → Tells (count_up_to limit) any
unfolding count_up_to
tells-count limit =
    record { says = λ s c h. let w = passed (read_byte s c).next (leb (read_byte s c).value limit) h in ((tells-byte.says s c w.ok).0, refl) }

tells_both : {A B : Type 0} {p : Reader A} {q : Reader B} {f : A → Bool} {g : B → Bool} → Tells p f → Tells q g → Tells (both p q) (λ t. f t.0 && g t.1)
tells_both {p} {q} {f} {g} j k =
    record {
      says = λ s c h.
          let b = k.says s (p s c).next h in
          let a = j.says s c b.0 in
          (a.0, and-true (f (p s c).value) (g (q s (p s c).next).value) a.1 b.1);
    }

module _ {A : Type 0} (p : Reader A) (test : A → Bool) (k : Tells p test) where
  tells-times : (n : ℕ) → Tells (times n p) (all test)
  unfolding times all
  tells-times zero = record { says = λ s c h. (h, refl) }
  tells-times (suc n) =
      record {
        says = λ s c h.
            let r = times n p s c in
            let x = (p s r.next).value in
            let b = k.says s r.next h in
            let a = (tells-times n).says s c b.0 in
            (a.0, all_snoc test r.value x ∙ and-true (all test r.value) (test x) a.1 b.1);
      }

  tells-section : (limit : ℕ) → Tells (section limit p) (all test)
  unfolding section
  tells-section limit =
      record {
        says = λ s c h.
            let n = count_up_to limit s c in
            let a = (tells-times n.value).says s n.next h in
            (((tells-count limit).says s c a.0).0, a.1);
      }

tells-said : Tells read_said (λ d. is_said d.0)
unfolding read_said
tells-said = record { says = λ s c h. (tells-if is_said).says s c h }

tells-prefix : Tells read_prefix is_backer
unfolding read_prefix
tells-prefix = record { says = λ s c h. (tells-if is_basic).says s c h }

tells-identifier : Tells read_identifier is_identifier
unfolding read_identifier
tells-identifier = record { says = λ s c h. (tells-if is_identifier).says s c h }

tells-configs : Tells read_configs (all is_config)
unfolding read_configs read_config
tells-configs = record { says = λ s c h. (tells-section (read_byte_if is_config) is_config (tells-byte-if is_config) 8).says s c h }

tells-prefixes : Tells read_prefixes (all is_backer)
unfolding read_prefixes
tells-prefixes = record { says = λ s c h. (tells-section read_prefix is_backer tells-prefix 16).says s c h }

tells-registry : Tells read_registry well_letters
unfolding read_registry well_letters
tells-registry =
    let k = tells_both tells-said (tells_both tells-identifier (tells_both tells-number (tells_both tells-said (tells_both tells-quad (tells_both tells-configs tells-prefixes))))) in
    record { says = λ s c h. k.says s c h }

all_held : (gs : List Registry) → all well_letters gs ≡ true → map held_read gs ≡ map held_now gs
unfolding all
all_held [] h = refl
all_held (g ∷ gs) h =
    let e = and_left (well_letters g) (all well_letters gs) h in
    let r = all_held gs (and_right (well_letters g) (all well_letters gs) h) in
    λ i. record { well = e i; state = g } ∷ r i

-- Where the reader has not stopped, the registries that were stored are well formed, and are those that were read.
pub stored-held : (s : List ℕ) (count : ℕ) (before after : List RegistryState) → Stored s count before after → (registries_in s (min count (length before))).next.ok ≡ true → map held_of (take (min count (length before)) after) ≡ map held_now (registries_in s (min count (length before))).value
unfolding registries_in
stored-held s count before after h ok =
    h.held ∙ all_held (registries_in s (min count (length before))).value ((tells-times read_registry well_letters tells-registry (min count (length before))).says s (placed 2) ok).1

behind-count : (s : List ℕ) → (wide_count 16 s starting).next.ok ≡ true → ((wide_count 16 s starting).next ≡ placed 2) × ((wide_count 16 s starting).value ≤ 16)
unfolding wide_count
behind-count s h =
    let n = number_at s 0 2 in
    let w = passed (advanced s starting 2) (leb n 16) h in
    (w.stays ∙ (went s starting 2 w.ok).goes, rw h (leb-true n 16 w.test))

-- Where the image's section is read, its registries are those behind the two bytes of its count, which is at most 16.
pub section-read : (s : List ℕ) → (read_registries s starting).next.ok ≡ true → (read_registries s starting ≡ registries_in s (wide_count 16 s starting).value) × ((wide_count 16 s starting).value ≤ 16)
unfolding read_registries wide_section registries_in
section-read s h =
    let n = wide_count 16 s starting in
    let a = (tells-times read_registry well_letters tells-registry n.value).says s n.next h in
    let b = behind-count s a.0 in
    (ap (λ (d : Cursor). times n.value read_registry s d) b.0, b.1)
