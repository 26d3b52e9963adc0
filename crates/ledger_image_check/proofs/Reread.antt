-- An image that passed its check, read again where its states stand: what a caller needs who stores them.
--     reread    the counts and the byte of the first row lead to the states of the image, and every reader gets to its end
use Prim.Native.Nat.{ℕ, ◌+◌, ◌≤◌}
use mathlib.Core.Path.{◌≡◌, refl, ap, sym, subst, ◌∙◌}
use mathlib.Core.Bool.{Bool, true, false, cond, ◌&&◌, false≢true}
use mathlib.Core.List.{List}
use native.Mathlib.Omega.{arith}
use lib.Dec.{eqb}
use lib.ListN.{length}
use Rattle.laws.proofs.Tests.{and_left}
use Rattle.codec_cursor.specs.declared.Cursor.{Cursor}
use Rattle.codec_cursor.specs.Readers.{starting, placed, times}
use Rattle.codec_cursor.specs.declared.Read.{Read}
use Rattle.registry_state.specs.States.{Registry, read_registry}
use Rattle.registry_state_credential.specs.CredentialStates.{read_credential}
use Rattle.registry_state_credential.specs.declared.CredentialState.{CredentialState}
use Rattle.ledger_image.specs.Ledgers.{sound}
use Rattle.ledger_image.specs.Images.{wide_count, wide_section, read_registries, read_credentials, ledger_of, image_of}
use Rattle.ledger_image.specs.Images.ImageAnswer.{held, refused}
use Rattle.ledger_image_check.specs.Checks.{ImageCheck, checked_by, checked_of}
use Rattle.ledger_image_check.proofs.Counts.{count-ok, count-within, times-length, section-counted}
use Rattle.ledger_image_check.proofs.CheckLaws.{registries_read, rows_counted, rows_read, rows-there, image_test, image-is}

-- the registries of an image stand from byte 2 on, and the rows from the byte that the check answers
abbrev registries_again : List ℕ → ℕ → Read (List Registry)
registries_again s m = times m read_registry s (placed 2)

abbrev rows_again : List ℕ → ℕ → ℕ → Read (List CredentialState)
rows_again s at n = times n read_credential s (placed at)

pub record Reread (s : List ℕ) (k : ImageCheck) : Type 0 where
  pub image : image_of s ≡ held (registries_again s k.registries).value (rows_again s k.rows_at k.rows).value
  pub registries-read : (registries_again s k.registries).next.ok ≡ true
  pub rows-read : (rows_again s k.rows_at k.rows).next.ok ≡ true
  pub few-registries : k.registries ≤ 16
  pub few-rows : k.rows ≤ 256

module _ (s : List ℕ) where
  -- what the image holds, by the two counts
  registries-there : (wide_count 16 s starting).next.ok ≡ true → registries_read s ≡ registries_again s (wide_count 16 s starting).value
  unfolding read_registries wide_section
  registries-there o = ap (times (wide_count 16 s starting).value read_registry s) (count-ok 16 s starting o).next

  counted : (registries_read s).next.ok ≡ true → (wide_count 16 s starting).next.ok ≡ true
  unfolding read_registries
  counted h = section-counted read_registry s 16 starting h

  counted-rows : (rows_read s).next.ok ≡ true → (rows_counted s).next.ok ≡ true
  unfolding read_credentials
  counted-rows h = section-counted read_credential s 256 (registries_read s).next h

  reread-held : image_test s ≡ true → Reread s (checked_by ((registries_read s).next.at + 2) (held (registries_read s).value (rows_read s).value))
  reread-held h =
      let a = and_left (rows_read s).next.ok (eqb (rows_read s).next.at (length s)) (and_left ((rows_read s).next.ok && eqb (rows_read s).next.at (length s)) (sound (ledger_of (registries_read s).value (rows_read s).value)) h) in
      let o2 = counted-rows a in
      let c2 = count-ok 256 s (registries_read s).next o2 in
      let e1 = registries-there (counted c2.before) in
      let e2 = rows-there s o2 in
      let m = (wide_count 16 s starting).value in
      let n = (rows_counted s).value in
      let lm : length (registries_read s).value ≡ m = ap (λ (r : Read (List Registry)). length r.value) e1 ∙ times-length read_registry s (placed 2) m in
      let ln : length (rows_read s).value ≡ n = ap (λ (r : Read (List CredentialState)). length r.value) e2 ∙ times-length read_credential s (placed (rows_counted s).next.at) n in
      let at : (rows_counted s).next.at ≡ (registries_read s).next.at + 2 = ap (λ (c : Cursor). c.at) c2.next in
      let g1 : registries_read s ≡ registries_again s (length (registries_read s).value) = e1 ∙ ap (registries_again s) (sym lm) in
      let g2 : rows_read s ≡ rows_again s ((registries_read s).next.at + 2) (length (rows_read s).value) = e2 ∙ ap (λ (i : ℕ). rows_again s i n) at ∙ ap (rows_again s ((registries_read s).next.at + 2)) (sym ln) in
      record {
        image =
            image-is s
            ∙ ap (λ (t : Bool). cond t (held (registries_read s).value (rows_read s).value) refused) h
            ∙ ap (λ (r : Read (List Registry)). held r.value (rows_read s).value) g1
            ∙ ap (λ (r : Read (List CredentialState)). held (registries_again s (length (registries_read s).value)).value r.value) g2;
        registries-read = ap (λ (r : Read (List Registry)). r.next.ok) (sym g1) ∙ c2.before;
        rows-read = ap (λ (r : Read (List CredentialState)). r.next.ok) (sym g2) ∙ a;
        few-registries = omega (arith, lm, count-within 16 s starting (wide_count 16 s starting) refl);
        few-rows = omega (arith, ln, count-within 256 s (registries_read s).next (rows_counted s) refl);
      }

  -- The values of an image that passed are those of the readers from byte 2, and from the byte of the first row.
  pub reread : (checked_of s).ok ≡ true → Reread s (checked_of s)
  unfolding checked_of
  reread h = go (image_test s) refl
    where
      answer : (t : Bool) → image_test s ≡ t → checked_of s ≡ checked_by ((registries_read s).next.at + 2) (cond t (held (registries_read s).value (rows_read s).value) refused)
      answer t e = rw (image-is s, e)

      go : (t : Bool) → image_test s ≡ t → Reread s (checked_of s)
      go true e = subst (λ (k : ImageCheck). Reread s k) (sym (answer true e)) (reread-held e)
      go false e = absurd (false≢true (ap (λ (k : ImageCheck). k.ok) (sym (answer false e)) ∙ h))
