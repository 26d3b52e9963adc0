-- How a loop writes rows to bytes and stores rows from bytes, one row at a time.
--     wrote, wrote_none, wrote-more, wrote-all   the buffer when i rows are written behind their count
--     not_written                                nothing is written where the test of the sizes fails
--     read, cursor, read_none, read_more, cursor-more   the rows when i of them are stored, and the cursor behind the bytes they were read from
use Prim.Native.Nat.{ℕ, zero, suc, ◌+◌, ◌*◌, ◌<◌, ◌≤◌}
use mathlib.Core.Path.{◌≡◌, refl, sym, ap, ◌∙◌}
use mathlib.Core.Bool.{Bool, true, false, cond, ◌&&◌}
use mathlib.Core.List.{List, [], ◌∷◌, ◌++◌, append_assoc, append-nil}
use native.Mathlib.Nat.{zero-add}
use native.Mathlib.Numerals.{add-one}
use native.Mathlib.Omega.{arith}
use borrow.Author.Tests.{leb-true, leb-false, le-leb}
use lib.Dec.{leb}
use lib.ListN.{length, get_or, take, set, length-append}
use lib.Seq.{sets, length-sets, take-suc, length-take-le}
use Rattle.laws.specs.Number.{digits}
use Rattle.laws.specs.Room.{put}
use Rattle.laws.proofs.Number.{length_digits}
use Rattle.laws.proofs.Room.{sets-append, put-sets, put-none}
use Rattle.laws.proofs.Tests.{and_left, and_right}
use Rattle.codec.specs.Layout.{joined}
use Rattle.codec_laws.proofs.CodesList.{joined_snoc}
use Rattle.codec_cursor.specs.declared.Cursor.{Cursor}
use Rattle.codec_cursor.specs.Readers.{placed, times}
use Rattle.codec_cursor.specs.declared.Read.{Read}
use Rattle.registry_state_credential.specs.CredentialStates.{no_credential, credential_bytes, read_credential}
use Rattle.registry_state_credential.specs.declared.CredentialState.{CredentialState}
use Rattle.registry_state_credential.proofs.CodesCredential.{length-credential}
use Rattle.ledger_image.specs.Images.{wide_bytes, credential_section}
use Rattle.ledger_sections.specs.RowImages.{written_rows, rows_from}

length-rows : (xs : List CredentialState) → length (joined credential_bytes xs) ≡ 115 * length xs
unfolding joined
length-rows [] = refl
length-rows (x ∷ xs) = rw (length-append, length-credential x, length-rows xs) (omega arith)

module _ (bs : List ℕ) (xs : List CredentialState) (n : ℕ) where
  abbrev bytes : ℕ → List ℕ
  bytes i = digits 2 n ++ joined credential_bytes (take i xs)

  length-bytes : (i : ℕ) → i ≤ length xs → length (bytes i) ≡ 2 + 115 * i
  length-bytes i h = rw (length-append, length_digits, length-rows (take i xs), length-take-le i xs h)

  -- the buffer when i rows are written behind the count
  abbrev pub wrote : ℕ → List ℕ
  wrote i = sets bs 0 (bytes i)

  pub wrote-long : (i : ℕ) → length (wrote i) ≡ length bs
  wrote-long i = length-sets bs 0 (bytes i)

  pub wrote_none : 2 ≤ length bs → put bs 0 (digits 2 n) ≡ wrote 0
  unfolding joined
  wrote_none h = put-sets bs 0 2 (digits 2 n) (length_digits 2 n) h ∙ ap (sets bs 0) (sym (append-nil (digits 2 n)))

  bytes-more : (i : ℕ) → i < length xs → bytes (suc i) ≡ bytes i ++ credential_bytes (get_or xs i no_credential)
  bytes-more i h =
      ap (λ (l : List CredentialState). digits 2 n ++ joined credential_bytes l) (take-suc xs i no_credential h)
      ∙ ap (λ (l : List ℕ). digits 2 n ++ l) (joined_snoc credential_bytes (take i xs) (get_or xs i no_credential))
      ∙ sym (append_assoc (digits 2 n) (joined credential_bytes (take i xs)) (credential_bytes (get_or xs i no_credential)))

  -- one row more, behind the others
  pub wrote-more : (i : ℕ) → i < length xs → 2 + 115 * i + 115 ≤ length bs → put (wrote i) (2 + 115 * i) (credential_bytes (get_or xs i no_credential)) ≡ wrote (suc i)
  wrote-more i h r =
      let w = credential_bytes (get_or xs i no_credential) in
      let e : 0 + length (bytes i) ≡ 2 + 115 * i = zero-add (length (bytes i)) ∙ length-bytes i (omega arith) in
      put-sets (wrote i) (2 + 115 * i) 115 w (length-credential (get_or xs i no_credential)) (rw (wrote-long i) r)
      ∙ ap (λ (k : ℕ). sets (wrote i) k w) (sym e)
      ∙ sym (sets-append bs 0 (bytes i) w)
      ∙ ap (sets bs 0) (sym (bytes-more i h))

  -- what is tested before a byte is written
  abbrev pub fits : Bool
  fits = leb n (length xs) && leb (2 + 115 * n) (length bs)

  pub enough-rows : fits ≡ true → n ≤ length xs
  enough-rows h = leb-true n (length xs) (and_left (leb n (length xs)) (leb (2 + 115 * n) (length bs)) h)

  pub enough-room : fits ≡ true → 2 + 115 * n ≤ length bs
  enough-room h = leb-true (2 + 115 * n) (length bs) (and_right (leb n (length xs)) (leb (2 + 115 * n) (length bs)) h)

  section-is : n ≤ length xs → credential_section (take n xs) ≡ bytes n
  unfolding credential_section wide_bytes
  section-is h = rw (length-take-le n xs h)

  pub wrote-all : fits ≡ true → wrote n ≡ written_rows xs n bs
  unfolding written_rows
  wrote-all h =
      let few = enough-rows h in
      sym (rw (le-leb n (length xs) few, section-is few) (put-sets bs 0 (2 + 115 * n) (bytes n) (length-bytes n few) (omega (arith, enough-room h))))

  pub not_written : fits ≡ false → bs ≡ written_rows xs n bs
  unfolding written_rows
  not_written h = go (leb n (length xs)) refl
    where
      go : (t : Bool) → leb n (length xs) ≡ t → bs ≡ cond t (put bs 0 (credential_section (take n xs))) bs
      go false e = refl
      go true e =
          let few = leb-true n (length xs) e in
          let short : leb (2 + 115 * n) (length bs) ≡ false = sym (ap (λ (t : Bool). t && leb (2 + 115 * n) (length bs)) e) ∙ h in
          sym (ap (put bs 0) (section-is few) ∙ put-none bs 0 (2 + 115 * n) (bytes n) (length-bytes n few) (omega (arith, leb-false (2 + 115 * n) (length bs) short)))

module _ (bs : List ℕ) (a : ℕ) (ys : List CredentialState) where
  -- the rows when i of them are read
  abbrev pub read : ℕ → List CredentialState
  read i = sets ys 0 (rows_from bs a i)

  -- the cursor behind them
  abbrev pub cursor : ℕ → Cursor
  cursor i = (times i read_credential bs (placed a)).next

  pub read-long : (i : ℕ) → length (read i) ≡ length ys
  read-long i = length-sets ys 0 (rows_from bs a i)

  pub read_none : ys ≡ read 0
  unfolding rows_from times
  read_none = refl

  pub cursor-none : placed a ≡ cursor 0
  unfolding times
  cursor-none = refl

  length_from : (i : ℕ) → length (rows_from bs a i) ≡ i
  unfolding rows_from times
  length_from zero = refl
  length_from (suc i) = rw (length-append, length_from i) (add-one i)

  from_more : (i : ℕ) → rows_from bs a (suc i) ≡ rows_from bs a i ++ ((read_credential bs (cursor i)).value ∷ [])
  unfolding rows_from times
  from_more i = refl

  pub cursor-more : (i : ℕ) (r : Read CredentialState) → r ≡ read_credential bs (cursor i) → r.next ≡ cursor (suc i)
  unfolding times
  cursor-more i r e = ap (λ (q : Read CredentialState). q.next) e

  pub read_more : (i : ℕ) (r : Read CredentialState) → r ≡ read_credential bs (cursor i) → set (read i) i r.value ≡ read (suc i)
  read_more i r e =
      ap (λ (q : Read CredentialState). set (read i) i q.value) e
      ∙ ap (λ (k : ℕ). sets (read i) k ((read_credential bs (cursor i)).value ∷ [])) (sym (zero-add (length (rows_from bs a i)) ∙ length_from i))
      ∙ sym (sets-append ys 0 (rows_from bs a i) ((read_credential bs (cursor i)).value ∷ []))
      ∙ ap (sets ys 0) (sym (from_more i))
