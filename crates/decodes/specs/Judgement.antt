-- What a record says of an attempt, and whether the decoder says the same.
use Rattle.std.specs.Prelude.{ℕ, List, Bool, true, false, not, ◌&&◌, ◌||◌, eqb}
use Rattle.registry_wire.specs.Attempts.{Decoded, malformed, decoded, decode_of}
use Rattle.decodes.specs.declared.Finding.{Finding}

abbrev pub well_formed : Decoded → Bool
well_formed malformed = false
well_formed (decoded m) = true

-- a 0 is right of a well-formed attempt, a 1 of a malformed one, and any other byte of none
unfoldable pub judge_of : ℕ → List ℕ → Finding
judge_of expected s =
    let ok = well_formed (decode_of s) in
    record { malformed = not ok; agrees = (ok && eqb expected 0) || (not ok && eqb expected 1) }
