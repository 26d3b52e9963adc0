-- What reading an image into lent slices leaves: the counts, the rows and the registries (docs/RULES.md, "Image").
use Rattle.std.specs.Prelude.{ℕ, ◌+◌, ◌≡◌, List, map, length, take, drop, Result, Ok, Err}
use Rattle.std.proofs.lemmas.List.Edits.{sets}
use Rattle.codec_cursor.specs.Readers.{starting}
use Rattle.registry_state.specs.States.{Registry}
use Rattle.registry_state.specs.declared.RegistryState.{RegistryState}
use Rattle.registry_state_credential.specs.declared.CredentialState.{CredentialState}
use Rattle.ledger_registry_image.specs.Ledgers.{held_of}
use Rattle.ledger_registry_image.specs.Steps.{held_now}
use Rattle.ledger_row_image.specs.Images.{ImageAnswer, image_number, read_registries, image_into}
use Rattle.ledger_row_image.specs.Images.ImageAnswer.{refused, held}
use Rattle.ledger_image_check.specs.Checks.{ImageCheck, checked_by}
use Rattle.ledger_image_check.specs.Refusals.{refusal_of}
use Rattle.ledger_image_check.specs.declared.Malformed.{Malformed}
use Rattle.ledger_read.specs.declared.ImageRead.{ImageRead}

-- what is to be stored in slices of these lengths: how many registries, how many rows, and the byte at which the first row stands
unfoldable pub plan_of : ℕ → ℕ → List ℕ → ImageCheck
plan_of registry_slots row_slots s = checked_by ((read_registries s starting).next.at + 2) (image_into registry_slots row_slots s)

-- the counts of what is held: after a refusal those that were handed in
pub record Counts : Type 0 where
  pub registries : ℕ
  pub rows : ℕ

abbrev pub counts_of : Result ImageRead Malformed → ℕ → ℕ → Counts
counts_of (Ok r) m n = record { registries = r.registry_count; rows = r.row_count }
counts_of (Err e) m n = record { registries = m; rows = n }

abbrev pub counts_after : ImageAnswer → ℕ → ℕ → Counts
counts_after refused m n = record { registries = m; rows = n }
counts_after (held gs ws) m n = record { registries = length gs; rows = length ws }

-- the rows: those of the image from the first place on, and the others as they were
abbrev pub rows_after : ImageAnswer → List CredentialState → List CredentialState
rows_after refused ws = ws
rows_after (held gs' ws') ws = sets ws 0 ws'

-- the registries of an image in the first places, each within its layout and limits, and the others as they were
pub record Placed (gs' : List Registry) (before after : List RegistryState) : Type 0 where
  pub stored : map held_of (take (length gs') after) ≡ map held_now gs'
  pub rest : drop (length gs') after ≡ drop (length gs') before
  pub long : length after ≡ length before

-- after a refusal every registry is the one that was there, to the last word
abbrev pub RegistriesAfter : ImageAnswer → List RegistryState → List RegistryState → Type 0
RegistriesAfter refused before after = after ≡ before
RegistriesAfter (held gs' ws') before after = Placed gs' before after

-- What reading an image s answers and leaves of slices: the number, and of what is held then the counts, the rows and the registries. The counts of before are any.
pub record ReadInto (s : List ℕ) (gs gs1 : List RegistryState) (ws ws1 : List CredentialState) (r : Result ImageRead Malformed) : Type 0 where
  pub number : refusal_of r ≡ image_number (image_into (length gs) (length ws) s)
  pub counts : (m n : ℕ) → counts_of r m n ≡ counts_after (image_into (length gs) (length ws) s) m n
  pub rows : ws1 ≡ rows_after (image_into (length gs) (length ws) s) ws
  pub registries : RegistriesAfter (image_into (length gs) (length ws) s) gs gs1
