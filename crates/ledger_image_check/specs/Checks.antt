-- What the check of an image answers, and the tests that it makes on the way (docs/RULES.md, "Image", "Reading rules").
use Rattle.std.specs.Prelude.{ℕ, zero, suc, ◌+◌, Bool, true, false, not, ◌&&◌, ◌≡◌, List, map, length, Result, Ok, Err}
use Rattle.cesr.specs.Primitives.{eq_said}
use Rattle.cesr.specs.declared.Said.{Said}
use Rattle.codec_cursor.specs.declared.Cursor.{Cursor}
use Rattle.codec_cursor.specs.Readers.{starting, times}
use Rattle.registry_state.specs.States.{Registry, read_registry}
use Rattle.ledger_registry_rules.specs.ReadingRules.{sound_registry}
use Rattle.ledger_image.specs.Tables.{has}
use Rattle.ledger_image.specs.Images.{ImageAnswer, wide_count, read_registries, image_of}
use Rattle.ledger_image.specs.Images.ImageAnswer.{refused, held}
use Rattle.ledger_image_check.specs.declared.Checked.{Checked}
use Rattle.ledger_image.specs.declared.Malformed.{Malformed}

-- what a check answers: whether the image is a ledger's, its counts, and the byte at which the first row stands
pub record ImageCheck : Type 0 where
  pub ok : Bool
  pub registries : ℕ
  pub rows_at : ℕ
  pub rows : ℕ

-- of an image that is refused the numbers are 0
abbrev pub checked_by : ℕ → ImageAnswer → ImageCheck
checked_by at refused = record { ok = false; registries = 0; rows_at = 0; rows = 0 }
checked_by at (held gs ws) = record { ok = true; registries = length gs; rows_at = at; rows = length ws }

-- the first row stands behind the two bytes of the second count, which stand behind the registries
unfoldable pub checked_of : List ℕ → ImageCheck
checked_of s = checked_by ((read_registries s starting).next.at + 2) (image_of s)

abbrev pub view_checked : Result Checked Malformed → ImageCheck
view_checked (Ok r) = record { ok = true; registries = r.registries; rows_at = r.rows_at; rows = r.rows }
view_checked (Err e) = record { ok = false; registries = 0; rows_at = 0; rows = 0 }

abbrev pub id_in : Registry → Said
id_in g = g.id

-- each of n registries from a cursor on is there, keeps the rules of one registry, and has the id of none before it
unfoldable pub registries_pass : List ℕ → Cursor → ℕ → Bool
registries_pass s c zero = true
registries_pass s c (suc n) =
    let before = times n read_registry s c in
    let g = read_registry s before.next in
    registries_pass s c n && (g.next.ok && (sound_registry g.value && not (has eq_said g.value.id (map id_in before.value))))

-- each of the registries that the first count counts
unfoldable pub section_passes : List ℕ → Bool
section_passes s = let n = wide_count 16 s starting in registries_pass s n.next n.value

-- the section whose registries all pass, by their ids and the cursor behind it
pub record Passed (s : List ℕ) (ids : List Said) (d : Cursor) : Type 0 where
  pub passes : section_passes s ≡ true
  pub listed : ids ≡ map id_in (read_registries s starting).value
  pub behind : d ≡ (read_registries s starting).next
