-- What is written and stored, by the image's own definitions.
--     written-section   where there are so many rows, what is written is the section of the first of them, all of it or nothing
--     section-rows      the rows that are stored are those that the reader of the image's section reads behind its count
use Prim.Native.Nat.{ℕ, ◌≤◌}
use mathlib.Core.Path.{◌≡◌, ap}
use mathlib.Core.List.{List}
use borrow.Author.Tests.{le-leb}
use lib.ListN.{length, take}
use Rattle.laws.specs.Room.{put}
use Rattle.codec_cursor.specs.declared.Cursor.{Cursor}
use Rattle.codec_cursor.specs.Readers.{placed, times}
use Rattle.registry_state_credential.specs.CredentialStates.{read_credential}
use Rattle.registry_state_credential.specs.declared.CredentialState.{CredentialState}
use Rattle.ledger_image.specs.Images.{credential_section, wide_count, wide_section, read_credentials}
use Rattle.ledger_sections.specs.RowImages.{written_rows, rows_from}

pub written-section : (ws : List CredentialState) (n : ℕ) (out : List ℕ) → n ≤ length ws → written_rows ws n out ≡ put out 0 (credential_section (take n ws))
unfolding written_rows
written-section ws n out h = rw (le-leb n (length ws) h)

pub section-rows : (s : List ℕ) (c : Cursor) (at : ℕ) → (wide_count 256 s c).next ≡ placed at → (read_credentials s c).value ≡ rows_from s at (wide_count 256 s c).value
unfolding read_credentials wide_section rows_from
section-rows s c at e = ap (λ (d : Cursor). (times (wide_count 256 s c).value read_credential s d).value) e
