-- The tests of an image's rows, each of 115 bytes (docs/RULES.md, "Image", "Reading rules").
use Rattle.std.specs.Prelude.{ℕ, zero, suc, ◌+◌, ◌*◌, Bool, true, not, ◌&&◌, List, [], ◌∷◌, ◌++◌, leb, eqb, length}
use Rattle.cesr.specs.Primitives.{read_matter}
use Rattle.cesr.specs.declared.Said.{Said}
use Rattle.codec_cursor.specs.Readers.{placed, said_of}
use Rattle.registry_state_credential.specs.CredentialStates.{read_credential}
use Rattle.ledger_image_ids.specs.Pairs.{Pair, key_of}
use Rattle.ledger_image_ids.specs.Tables.{has}
use Rattle.ledger_image_ids.specs.Ledgers.{eq_pair, has_registry, zero_or_one}

-- the key of a row that stands at a place, and those of n rows from a place on
unfoldable pub key_at : List ℕ → ℕ → Pair
key_at s at = record { registry = said_of (read_matter s at); credential = said_of (read_matter s (at + 33)) }

unfoldable pub keys_from : List ℕ → ℕ → ℕ → List Pair
keys_from s at zero = []
keys_from s at (suc n) = keys_from s at n ++ (key_at s (at + 115 * n) ∷ [])

-- the row behind n others is read, its registry is among the ids, its sn is 0 or 1, and its key is that of none before it
unfoldable pub row_passes : List ℕ → ℕ → List Said → ℕ → Bool
row_passes s at ids n =
    let w = read_credential s (placed (at + 115 * n)) in
    w.next.ok && (has_registry ids w.value && (zero_or_one w.value && not (has eq_pair (key_of w.value) (keys_from s at n))))

unfoldable pub rows_pass : List ℕ → ℕ → List Said → ℕ → Bool
rows_pass s at ids zero = true
rows_pass s at ids (suc n) = rows_pass s at ids n && row_passes s at ids n

-- at most 256 rows stand from a place on, up to the end of the bytes
abbrev pub ends_there : ℕ → ℕ → ℕ → Bool
ends_there len at n = leb n 256 && eqb (at + 115 * n) len

-- and each passes
unfoldable pub rows_stand : List ℕ → ℕ → List Said → ℕ → Bool
rows_stand s at ids n = ends_there (length s) at n && rows_pass s at ids n
