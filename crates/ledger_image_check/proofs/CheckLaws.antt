-- The check of an image, from the tests that it makes.
--     image-tested       they hold exactly where the image is read as a ledger
--     checked-held       then the answer is its counts and where its first row stands
--     checked_refused    and otherwise zeros
--     answer-broken, answer-held, answer-rows, answer-refused
--                        the same from what the calls of the code gave
use Prim.Native.Nat.{ℕ, ◌+◌, ◌*◌}
use mathlib.Core.Path.{◌≡◌, refl, ap, sym, ◌∙◌}
use mathlib.Core.Bool.{Bool, true, false, cond, ◌&&◌, and-false}
use mathlib.Core.List.{List, map}
use native.Mathlib.Omega.{arith}
use borrow.Author.Tests.{le-leb}
use lib.Dec.{eqb, leb}
use lib.ListN.{length, length-map}
use Rattle.laws.proofs.Tests.{and_left}
use Rattle.cesr.specs.declared.Said.{Said}
use Rattle.codec_cursor.specs.declared.Cursor.{Cursor}
use Rattle.codec_cursor.specs.Readers.{starting, placed, times}
use Rattle.codec_cursor.specs.declared.Read.{Read}
use Rattle.codec.specs.Layout.{all}
use Rattle.codec_laws.proofs.Codes.{and-true}
use Rattle.registry_state.specs.States.{Registry, read_registry}
use Rattle.registry_state_credential.specs.CredentialStates.{read_credential, well_credential}
use Rattle.registry_state_credential.specs.declared.CredentialState.{CredentialState}
use Rattle.ledger_registry_rules.specs.Pairs.{key_of}
use Rattle.ledger_image.specs.Tables.{distinct}
use Rattle.ledger_image.specs.Ledgers.{holds, eq_pair, has_registry, zero_or_one, row_rules, sound}
use Rattle.ledger_image.proofs.SoundParts.{sound-parts}
use Rattle.ledger_image.specs.Images.{wide_count, wide_section, read_registries, read_credentials, read_image, ledger_of, image_of}
use Rattle.ledger_image.specs.Images.ImageAnswer.{refused, held}
use Rattle.ledger_image_rows_check.specs.RowTests.{rows_stand}
use Rattle.ledger_image_check.specs.Checks.{id_in, section_passes, checked_of, Passed}
use Rattle.ledger_image_check.proofs.Counts.{count-ok, count-within, times-length, section-counted}
use Rattle.ledger_image_check.proofs.RegistryChecks.{apart_and_sound, pass-registries, held-ids, rules-registries}
use Rattle.ledger_image_rows_check.proofs.RowChecks.{rows_keep, rows-read, rows-well, pass-rows}

rules-rows : (ids : List Said) (ws : List CredentialState) → leb (length ws) 256 ≡ true → all well_credential ws ≡ true → (holds (row_rules 256 (length ws) ws) && all (has_registry ids) ws) ≡ rows_keep ids ws
unfolding holds
rules-rows ids ws h w = rw (h, w) (go (distinct eq_pair (map key_of ws)) (all zero_or_one ws) (all (has_registry ids) ws))
  where
    go : (d z r : Bool) → ((d && (z && true)) && r) ≡ (d && (z && r))
    go false z r = refl
    go true true r = refl
    go true false r = refl

-- the reading rules of what was read, where it was read within the limits
read-sound : (gs : List Registry) (ws : List CredentialState) → leb (length gs) 16 ≡ true → leb (length ws) 256 ≡ true → all well_credential ws ≡ true → sound (ledger_of gs ws) ≡ (apart_and_sound gs && rows_keep (map id_in gs) ws)
unfolding ledger_of
read-sound gs ws m n w =
    sound-parts (ledger_of gs ws) ∙ rw (rules-registries gs m, held-ids gs, rules-rows (map id_in gs) ws n w)

module _ (s : List ℕ) where
  abbrev pub registries_read : Read (List Registry)
  registries_read = read_registries s starting

  -- the second count
  abbrev pub rows_counted : Read ℕ
  rows_counted = wide_count 256 s registries_read.next

  abbrev pub rows_read : Read (List CredentialState)
  rows_read = read_credentials s registries_read.next

  -- the tests that are made before the rows are looked at, and on the rows
  abbrev pub whole : Bool
  whole = rows_counted.next.ok && section_passes s

  abbrev pub rows_tested : Bool
  rows_tested = rows_stand s rows_counted.next.at (map id_in registries_read.value) rows_counted.value

  abbrev pub image_test : Bool
  image_test = (rows_read.next.ok && eqb rows_read.next.at (length s)) && sound (ledger_of registries_read.value rows_read.value)

  stopped-counts : rows_counted.next.ok ≡ false → rows_read.next.ok ≡ false
  unfolding read_credentials
  stopped-counts o = go rows_read.next.ok refl
    where
      go : (t : Bool) → rows_read.next.ok ≡ t → t ≡ false
      go true e = sym (section-counted read_credential s 256 registries_read.next e) ∙ o
      go false e = refl

  -- the rows, read from the byte at which the first stands
  abbrev pub rows_from : Read (List CredentialState)
  rows_from = times rows_counted.value read_credential s (placed rows_counted.next.at)

  pub rows-there : rows_counted.next.ok ≡ true → rows_read ≡ rows_from
  unfolding read_credentials wide_section
  rows-there o = ap (λ (t : Bool). times rows_counted.value read_credential s (record { ok = t; at = rows_counted.next.at })) o

  registries-pass : registries_read.next.ok ≡ true → section_passes s ≡ apart_and_sound registries_read.value
  unfolding section_passes read_registries wide_section
  registries-pass h = let n = wide_count 16 s starting in pass-registries s n.next n.value h

  few-registries : leb (length registries_read.value) 16 ≡ true
  unfolding read_registries wide_section
  few-registries =
      let n = wide_count 16 s starting in
      le-leb (length registries_read.value) 16 (omega (arith, times-length read_registry s n.next n.value, count-within 16 s starting n refl))

  counted-few : leb rows_counted.value 256 ≡ true
  counted-few = le-leb rows_counted.value 256 (count-within 256 s registries_read.next rows_counted refl)

  few-rows : leb (length rows_from.value) 256 ≡ true
  few-rows =
      le-leb (length rows_from.value) 256 (omega (arith, times-length read_credential s (placed rows_counted.next.at) rows_counted.value, count-within 256 s registries_read.next rows_counted refl))

  -- behind a second count that was read, the rows end 115 bytes on for each, and the rules are those that were tested
  rows-tested : rows_counted.next.ok ≡ true → (section_passes s && rows_tested) ≡ ((rows_from.next.ok && eqb rows_from.next.at (length s)) && sound (ledger_of registries_read.value rows_from.value))
  unfolding rows_stand
  rows-tested o =
      let at = rows_counted.next.at in
      let n = rows_counted.value in
      let ids = map id_in registries_read.value in
      rw (registries-pass (count-ok 256 s registries_read.next o).before, counted-few, pass-rows s at ids n) (go rows_from.next.ok refl)
    where
      ends : rows_from.next.ok ≡ true → rows_from.next.at ≡ rows_counted.next.at + 115 * rows_counted.value
      ends h = ap (λ (c : Cursor). c.at) (rows-read s rows_counted.next.at rows_counted.value h).0

      ruled : rows_from.next.ok ≡ true → sound (ledger_of registries_read.value rows_from.value) ≡ (apart_and_sound registries_read.value && rows_keep (map id_in registries_read.value) rows_from.value)
      ruled h =
          read-sound registries_read.value rows_from.value few-registries few-rows (rows-well s rows_counted.next.at rows_counted.value h)

      moved : (p f k : Bool) → (p && (f && k)) ≡ (f && (p && k))
      moved true f k = refl
      moved false f k = sym (and-false f)

      go : (t : Bool) → rows_from.next.ok ≡ t → (apart_and_sound registries_read.value && (eqb (rows_counted.next.at + 115 * rows_counted.value) (length s) && (t && rows_keep (map id_in registries_read.value) rows_from.value))) ≡ ((t && eqb rows_from.next.at (length s)) && sound (ledger_of registries_read.value rows_from.value))
      go true e =
          rw (ends e, ruled e) (moved (apart_and_sound registries_read.value) (eqb (rows_counted.next.at + 115 * rows_counted.value) (length s)) (rows_keep (map id_in registries_read.value) rows_from.value))
      go false e = rw (and-false (eqb (rows_counted.next.at + 115 * rows_counted.value) (length s))) (and-false (apart_and_sound registries_read.value))

  pub image-tested : (whole && rows_tested) ≡ image_test
  image-tested = go rows_counted.next.ok refl
    where
      go : (t : Bool) → rows_counted.next.ok ≡ t → ((t && section_passes s) && rows_tested) ≡ image_test
      go true o = rows-tested o ∙ ap (λ (r : Read (List CredentialState)). (r.next.ok && eqb r.next.at (length s)) && sound (ledger_of registries_read.value r.value)) (sym (rows-there o))
      go false o = rw (stopped-counts o)

  pub image-is : image_of s ≡ cond image_test (held registries_read.value rows_read.value) refused
  unfolding image_of read_image
  image-is = refl

  -- where all tests hold the image is a ledger's
  pub checked-held : whole ≡ true → rows_tested ≡ true → (m : ℕ) → m ≡ length registries_read.value → record { ok = true; registries = m; rows_at = rows_counted.next.at; rows = rows_counted.value } ≡ checked_of s
  unfolding checked_of
  checked-held w r m e =
      let o = and_left rows_counted.next.ok _ w in
      let at : rows_counted.next.at ≡ registries_read.next.at + 2 = ap (λ (c : Cursor). c.at) (count-ok 256 s registries_read.next o).next in
      let n : length rows_read.value ≡ rows_counted.value = ap (λ (x : Read (List CredentialState)). length x.value) (rows-there o) ∙ times-length read_credential s (placed rows_counted.next.at) rows_counted.value in
      let h : image_test ≡ true = sym image-tested ∙ and-true whole rows_tested w r in
      rw (image-is, h, e, at, n)

  -- and where one fails it is refused
  pub checked_refused : (whole && rows_tested) ≡ false → record { ok = false; registries = 0; rows_at = 0; rows = 0 } ≡ checked_of s
  unfolding checked_of
  checked_refused e = let h : image_test ≡ false = sym image-tested ∙ e in rw (image-is, h)

-- where a registry does not pass
pub answer-broken : (s : List ℕ) → section_passes s ≡ false → record { ok = false; registries = 0; rows_at = 0; rows = 0 } ≡ checked_of s
answer-broken s p = checked_refused s (rw (p, and-false (rows_counted s).next.ok))

-- once the registries have passed and the second count is read
module _ (s : List ℕ) (ids : List Said) (d : Cursor) (k : Passed s ids d) (n : Read ℕ) (c : n ≡ wide_count 256 s d) where
  counts : n ≡ wide_count 256 s (read_registries s starting).next
  counts = c ∙ ap (wide_count 256 s) k.behind

  tests : whole s ≡ n.next.ok
  tests = rw (k.passes, counts) (go (wide_count 256 s (read_registries s starting).next).next.ok)
    where
      go : (t : Bool) → (t && true) ≡ t
      go true = refl
      go false = refl

  rows-tests : rows_stand s n.next.at ids n.value ≡ rows_tested s
  rows-tests = rw (← counts, ← k.listed)

  pub answer-held : n.next.ok ≡ true → true ≡ rows_stand s n.next.at ids n.value → (m : ℕ) → m ≡ length ids → record { ok = true; registries = m; rows_at = n.next.at; rows = n.value } ≡ checked_of s
  answer-held w r m e =
      let c : record { ok = true; registries = m; rows_at = (wide_count 256 s (read_registries s starting).next).next.at; rows = (wide_count 256 s (read_registries s starting).next).value } ≡ checked_of s =
      checked-held s (tests ∙ w) (sym (r ∙ rows-tests)) m (e ∙ ap length k.listed ∙ length-map (read_registries s starting).value id_in) in
      rw counts c

  pub answer-rows : false ≡ rows_stand s n.next.at ids n.value → record { ok = false; registries = 0; rows_at = 0; rows = 0 } ≡ checked_of s
  answer-rows r = checked_refused s (ap (λ (x : Bool). whole s && x) (sym (r ∙ rows-tests)) ∙ and-false (whole s))

  pub answer-refused : n.next.ok ≡ false → record { ok = false; registries = 0; rows_at = 0; rows = 0 } ≡ checked_of s
  answer-refused w = checked_refused s (ap (λ (x : Bool). x && rows_tested s) (tests ∙ w))
