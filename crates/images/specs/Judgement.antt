-- What comes of an image (docs/RULES.md, "Image", "Look-up"), and whether a record expects it.
use Rattle.std.specs.Prelude.{ℕ, zero, suc, ◌+◌, ◌-◌, ◌*◌, ◌%◌, List, Bool, false, cond, ◌&&◌, eqb, ltb, length, take, get_or}
use Rattle.laws.specs.Number.{number_at}
use Rattle.cesr.specs.Primitives.{read_matter}
use Rattle.registry_laws.specs.Pairs.{Pair}
use Rattle.ledger_step.specs.Ledgers.{Ledger, look_up}
use Rattle.ledger_step.specs.Refusals.{refusal_of}
use Rattle.ledger_standing.specs.Lookups.{view_looked_up}
use Rattle.ledger_image.specs.Images.{ImageAnswer, Written, image_number, written_of}
use Rattle.ledger_table.specs.Tables.{ledger_after}
use Rattle.images.specs.declared.answer.Facts.{Facts}
use Rattle.images.specs.declared.answer.Image.{Image}

-- the digest of the first n bytes
unfoldable pub digest_up_to : List ℕ → ℕ → ℕ
digest_up_to s zero = 0
digest_up_to s (suc n) = (digest_up_to s n * 31 + get_or s n 0 + 1) % 4294967291

unfoldable pub digest_of : List ℕ → ℕ
digest_of s = digest_up_to s (length s)

-- the image that was written to a buffer's start
unfoldable pub stored_of : Written → Image
stored_of w = record { size = w.size; digest = digest_of (take w.size w.bytes) }

-- a buffer is refused with 30, and has the same digest as before
unfoldable pub refused_short : Ledger → List ℕ → Bool
refused_short l out =
    let w = written_of l out in
    eqb w.number 30 && eqb (digest_of w.bytes) (digest_of out)

-- the same of the part of a buffer that is a byte too short; there is none where no image was written, nor in a shorter buffer
unfoldable pub short_of : Ledger → ℕ → List ℕ → Bool
short_of l size out = cond (eqb size 0) false (cond (ltb (length out) size) false (refused_short l (take (size - 1) out)))

-- the key in a record's first bytes
unfoldable pub key_in : List ℕ → Pair
key_in e = record { registry = record { 0 = read_matter e 12 }; credential = record { 0 = read_matter e 45 } }

-- what comes of an image, in the numbers that a record expects and a line prints
pub record Told : Type 0 where
  pub number : ℕ
  pub registries : ℕ
  pub rows : ℕ
  pub size : ℕ
  pub digest : ℕ
  pub short : Bool
  pub refusal : ℕ
  pub standing : ℕ

-- what the code's facts stand for
abbrev pub view_facts : Facts → Told
view_facts f =
    record
    { number = refusal_of f.read; registries = f.registries; rows = f.rows; size = f.size; digest = f.digest; short = f.short; refusal = (view_looked_up f.found).refusal; standing = (view_looked_up f.found).standing }

-- what comes of an image that is read into a ledger: the number, and of what is then held the counts, the image, and the key's standing
unfoldable pub facts_of : ImageAnswer → Ledger → Pair → List ℕ → List ℕ → Told
facts_of a before k out other =
    let l = ledger_after a before in
    let i = stored_of (written_of l out) in
    let f = look_up l k in
    record
    { number = image_number a; registries = l.registry_count; rows = l.row_count; size = i.size; digest = i.digest; short = short_of l i.size other; refusal = f.refusal; standing = f.standing }

-- whether the facts are those that a record's first bytes expect; the buffer that is too short has no byte there
unfoldable pub agrees_of : Told → List ℕ → Bool
agrees_of f e =
    (eqb f.number (number_at e 0 1) && (eqb f.registries (number_at e 1 1) && eqb f.rows (number_at e 2 2)))
    && ((eqb f.size (number_at e 4 2) && eqb f.digest (number_at e 6 4))
    && (f.short && (eqb f.refusal (number_at e 10 1) && eqb f.standing (number_at e 11 1))))
