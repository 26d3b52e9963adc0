-- What writing the image of a lent ledger answers (docs/RULES.md, "Image").
use Rattle.std.specs.Prelude.{ℕ, ◌+◌, ◌*◌, Bool, cond, List, length, Result, Ok, Err}
use Rattle.std.proofs.lemmas.List.Edits.{sets}
use Rattle.ledger_sections.specs.Images.{Written}
use Rattle.ledger_written.specs.declared.WriteError.{WriteError}
use Rattle.ledger_written.specs.declared.WriteError.TheVariants.{Malformed, ShortBuffer}

abbrev pub error_number : WriteError → ℕ
error_number Malformed = 1
error_number ShortBuffer = 30

-- what the code answers and leaves in the buffer stands for
abbrev pub view_written : Result ℕ WriteError → List ℕ → Written
view_written (Ok n) out = record { number = 0; size = n; bytes = out }
view_written (Err e) out = record { number = error_number e; size = 0; bytes = out }

-- how many bytes an image has, by those of its first section and the rows: two more for the count of the rows, and 115 for each
abbrev pub image_size : ℕ → ℕ → ℕ
image_size first n = first + (2 + 115 * n)

-- the answer, by whether the reading rules are kept and whether the buffer has room, and by the image's size
unfoldable pub answer_of : Bool → Bool → ℕ → Result ℕ WriteError
answer_of ok fits size = cond ok (cond fits (Ok size) (Err ShortBuffer)) (Err Malformed)

-- the buffer when both sections are written: the second stands behind the first, and the bytes behind it are those that were there
unfoldable pub with_sections : List ℕ → List ℕ → List ℕ → List ℕ
with_sections first second out = sets (sets out 0 first) (length first) second
