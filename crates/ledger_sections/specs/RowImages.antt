-- The credential section of an image, from rows and into rows (docs/RULES.md, "Image").
use Rattle.std.specs.Prelude.{ℕ, cond, List, leb, length, take}
use Rattle.laws.specs.Room.{put}
use Rattle.codec_cursor.specs.Readers.{placed, times}
use Rattle.registry_state_credential.specs.CredentialStates.{read_credential}
use Rattle.registry_state_credential.specs.declared.CredentialState.{CredentialState}
use Rattle.ledger_image.specs.Images.{credential_section}

-- the section of the first count rows, from the buffer's start, all of it or nothing; nothing where there are not so many rows
unfoldable pub written_rows : List CredentialState → ℕ → List ℕ → List ℕ
written_rows ws count out = cond (leb count (length ws)) (put out 0 (credential_section (take count ws))) out

-- the count rows that are read from a place on, as the credential section of an image is read behind its count
unfoldable pub rows_from : List ℕ → ℕ → ℕ → List CredentialState
rows_from s at count = (times count read_credential s (placed at)).value
