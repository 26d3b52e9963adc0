-- The image of a ledger, as it is written: the section of the registries, then that of the credentials in the part of the buffer behind it.
--     first, answer, headed, rest, part, last    the bytes of the first section, what is answered, the buffer behind the first section's writing, the part that is lent, and the buffer at the end
--     refused-as      after a refusal the buffer is as it was
--     rest-is-there   else there is a part behind the first section
--     written-as      and in the end the buffer has the image, and behind it the bytes that were there
use Rattle.std.specs.Prelude.{Result, Ok, Err}
use Prim.Native.Nat.{ℕ, ◌+◌, ◌-◌, ◌*◌, ◌≤◌}
use mathlib.Core.Path.{◌≡◌, refl, ap, sym, ◌∙◌}
use mathlib.Core.Bool.{Bool, true, false}
use mathlib.Core.List.{List, [], ◌∷◌, ◌++◌, map}
use native.Mathlib.Nat.{min-eq_left, zero-add}
use native.Mathlib.Omega.{arith}
use borrow.Author.Tests.{leb-true, eqb-true}
use borrow.Rule.Slice.PartMut.{mid_of, put_mid, mid_len}
use lib.Dec.{leb}
use lib.ListN.{length, take, length-append}
use lib.Seq.{sets, length-take-le}
use Rattle.laws.specs.Room.{put}
use Rattle.laws.proofs.Room.{put-sets, length-put, sets-append}
use Rattle.registry_bytes.proofs.StateWrites.{part-stored}
use Rattle.registry_state.specs.States.{Registry, view_registry, registry_bytes}
use Rattle.registry_state.specs.declared.RegistryState.{RegistryState}
use Rattle.registry_state_credential.specs.declared.CredentialState.{CredentialState}
use Rattle.registry_state.proofs.StateLoops.{length-registry}
use Rattle.ledger_sections.specs.Ledgers.{Ledger, held_of, lent_ledger, sound}
use Rattle.ledger_sections.proofs.Rules.{parts}
use Rattle.ledger_sections.specs.Images.{state_of, states_of, ledger_bytes, image_bytes, registry_section, credential_section, registry_size, written_of}
use Rattle.ledger_sections.proofs.ImageLength.{length-wide, length-image}
use Rattle.ledger_sections.specs.RegistrySections.{section_of}
use Rattle.ledger_sections.specs.RowImages.{written_rows}
use Rattle.ledger_sections.proofs.RowSections.{written-section}
use Rattle.ledger_written.specs.Writes.{image_size, answer_of, view_written, with_sections}
use Rattle.ledger_written.specs.declared.WriteError.{WriteError}

states-are : (gs : List RegistryState) → map state_of (map held_of gs) ≡ map view_registry gs
states-are [] = refl
states-are (g ∷ gs) = ap (λ (l : List Registry). view_registry g ∷ l) (states-are gs)

-- the second section: two bytes for its count, and 115 for each row
length-credentials : (ws : List CredentialState) → length (credential_section ws) ≡ 2 + 115 * length ws
unfolding image_bytes registry_section
length-credentials ws =
    let a = length-wide registry_bytes registry_size length-registry [] in
    let b = length-append (registry_section []) (credential_section ws) in
    omega (arith, a, b, length-image [] ws)

module _ (gs : List RegistryState) (m : ℕ) (ws : List CredentialState) (n : ℕ) (bs : List ℕ) where
  abbrev pub ledger : Ledger
  ledger = lent_ledger gs m ws n

  -- how many bytes the first section has
  abbrev pub first : ℕ
  first = length (section_of gs m)

  -- whether the buffer has room, and what is answered
  abbrev enough : Bool
  enough = leb (image_size first n) (length bs)

  abbrev pub answer : Result ℕ WriteError
  answer = answer_of (sound ledger) enough (image_size first n)

  -- the buffer when the first section is written, the part behind it, and the buffer when the second is written to that part
  abbrev pub headed : List ℕ
  headed = put bs 0 (section_of gs m)

  abbrev pub rest : ℕ
  rest = length bs - first

  abbrev pub part : List ℕ
  part = mid_of first rest headed

  abbrev pub last : List ℕ
  last = put_mid first rest headed (written_rows ws n part)

  headed-long : length headed ≡ length bs
  headed-long = length-put bs 0 (section_of gs m)

  -- a ledger that keeps to the reading rules
  module _ (ok : sound ledger ≡ true) where
    few-rows : n ≤ length ws
    unfolding lent_ledger
    few-rows =
        let k = parts ledger ok in
        let e = eqb-true (length ws) 256 k.row-slots in
        let f : n ≤ 256 = k.few-rows in
        omega (arith, e, f)

    section-is : section_of gs m ≡ registry_section (states_of ledger)
    unfolding lent_ledger section_of
    section-is =
        let f : m ≤ 16 = (parts ledger ok).few-registries in
        ap (λ (k : ℕ). registry_section (map view_registry (take k gs))) (min-eq_left f) ∙ ap registry_section (sym (states-are (take m gs)))

    bytes-are : ledger_bytes ledger ≡ section_of gs m ++ credential_section (take n ws)
    unfolding lent_ledger image_bytes
    bytes-are = ap (λ (l : List ℕ). l ++ credential_section (take n ws)) (sym section-is)

    second-long : length (credential_section (take n ws)) ≡ 2 + 115 * n
    second-long = length-credentials (take n ws) ∙ ap (λ (k : ℕ). 2 + 115 * k) (length-take-le n ws few-rows)

    size_is : length (ledger_bytes ledger) ≡ image_size first n
    size_is = ap (λ (l : List ℕ). length l) bytes-are ∙ length-append (section_of gs m) (credential_section (take n ws)) ∙ ap (λ (k : ℕ). first + k) second-long

    -- both sections, where there is room for them
    module _ (fits : image_size first n ≤ length bs) where
      part-counted : length part ≡ rest
      part-counted = mid_len first (length bs) headed (rw headed-long (omega arith))

      second_is : written_rows ws n part ≡ sets part 0 (credential_section (take n ws))
      second_is = written-section ws n part few-rows ∙ put-sets part 0 (2 + 115 * n) (credential_section (take n ws)) second-long (omega (arith, part-counted))

      -- the part, back in its place, and the first section before it
      last-sections : last ≡ with_sections (section_of gs m) (credential_section (take n ws)) bs
      unfolding with_sections
      last-sections =
          let c = credential_section (take n ws) in
          let p = sets (mid_of first (length headed - first) headed) 0 c in
          let stored : put_mid first (length headed - first) headed p ≡ sets headed first c = part-stored first headed p c (rw headed-long (omega arith)) refl in
          ap (put_mid first rest headed) second_is
          ∙ ap (λ (k : ℕ). put_mid first (k - first) headed (sets (mid_of first (k - first) headed) 0 c)) (sym headed-long)
          ∙ stored
          ∙ ap (λ (l : List ℕ). sets l first c) (put-sets bs 0 first (section_of gs m) refl (omega arith))

      -- both are the image
      sections-are : with_sections (section_of gs m) (credential_section (take n ws)) bs ≡ sets bs 0 (ledger_bytes ledger)
      unfolding with_sections
      sections-are =
          let s = section_of gs m in
          let c = credential_section (take n ws) in
          ap (λ (k : ℕ). sets (sets bs 0 s) k c) (sym (zero-add first)) ∙ sym (sets-append bs 0 s c) ∙ ap (sets bs 0) (sym bytes-are)

      last-is : last ≡ sets bs 0 (ledger_bytes ledger)
      last-is = last-sections ∙ sections-are

  -- where nothing is refused, both tests hold
  both_hold : (t u : Bool) (k : ℕ) → answer_of t u (image_size first n) ≡ Ok k → (t ≡ true) × (u ≡ true)
  unfolding answer_of
  both_hold true true k h = (refl, refl)
  both_hold true false k h = cc
  both_hold false true k h = cc
  both_hold false false k h = cc

  module _ (size : ℕ) (taken : answer ≡ Ok size) where
    holds-both : (sound ledger ≡ true) × (enough ≡ true)
    holds-both = both_hold (sound ledger) enough size taken

    room-is : image_size first n ≤ length bs
    room-is = leb-true (image_size first n) (length bs) holds-both.1

    first_fits : first ≤ length bs
    first_fits = omega (arith, room-is)

    written_all : view_written (Ok size) last ≡ written_of ledger bs
    unfolding answer_of written_of
    written_all =
        ap (λ (r : Result ℕ WriteError). view_written r last) (sym taken)
        ∙ rw (holds-both.0, size_is holds-both.0, holds-both.1, last-is holds-both.0 room-is)

  refused-by : (t u : Bool) (e : WriteError) → answer_of t u (image_size first n) ≡ Err e → sound ledger ≡ t → enough ≡ u → view_written (answer_of t u (image_size first n)) bs ≡ written_of ledger bs
  unfolding answer_of written_of
  refused-by true true e h p q = cc
  refused-by true false e h p q = rw (p, size_is p, q)
  refused-by false true e h p q = rw p
  refused-by false false e h p q = rw p

  refused_all : (e : WriteError) → answer ≡ Err e → view_written (Err e) bs ≡ written_of ledger bs
  refused_all e h = ap (λ (r : Result ℕ WriteError). view_written r bs) (sym h) ∙ refused-by (sound ledger) enough e h refl refl

  -- the same from what the calls of the code gave: whether the ledger is sound, the first section's size, and what is answered
  module _ (ok : Bool) (f : ℕ) (r : Result ℕ WriteError) (s : ok ≡ sound ledger) (q : f ≡ first) (a : r ≡ answer_of ok (leb (image_size f n) (length bs)) (image_size f n)) where
    answered : r ≡ answer
    answered = a ∙ (λ t. answer_of (s t) (leb (image_size (q t) n) (length bs)) (image_size (q t) n))

    pub refused-as : (e : WriteError) → r ≡ Err e → view_written (Err e) bs ≡ written_of ledger bs
    refused-as e h = refused_all e (sym answered ∙ h)

    module _ (k : ℕ) (h : r ≡ Ok k) (o : List ℕ) (w : o ≡ headed) where
      pub rest-is-there : f ≤ length o
      rest-is-there = rw (q, w, headed-long) (first_fits k (sym answered ∙ h))

      pub written-as : (x : List ℕ) → x ≡ written_rows ws n (mid_of f (length o - f) o) → view_written (Ok k) (put_mid f (length o - f) o x) ≡ written_of ledger bs
      written-as x v =
          let stored : put_mid f (length o - f) o x ≡ last =
          ap (put_mid f (length o - f) o) v
          ∙ (λ t. put_mid (q t) (length (w t) - q t) (w t) (written_rows ws n (mid_of (q t) (length (w t) - q t) (w t))))
          ∙ ap (λ (z : ℕ). put_mid first (z - first) headed (written_rows ws n (mid_of first (z - first) headed))) headed-long in
          ap (view_written (Ok k)) stored ∙ written_all k (sym answered ∙ h)
