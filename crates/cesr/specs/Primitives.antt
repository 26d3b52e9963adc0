-- Primitives: their bytes, equality, and the letters that tell their roles (docs/RULES.md, "Bytes").
use Rattle.std.specs.Prelude.{ℕ, ◌+◌, ◌%◌, List, ◌∷◌, ◌++◌, Bool, cond, ◌&&◌, ◌||◌, eqb, leb, get_or}
use Rattle.cesr_number.specs.Number.{number, digits}
use Rattle.cesr_number.specs.Room.{room}
use Rattle.cesr.specs.declared.Matter.{Matter}
use Rattle.cesr.specs.declared.Said.{Said}
use Rattle.cesr.specs.declared.BasicPrefix.{BasicPrefix}

-- no primitive: its code is no letter
abbrev pub none : Matter
none = record { code = 0; w0 = 0; w1 = 0; w2 = 0; w3 = 0 }

-- 33 bytes: a letter, then four words
abbrev pub word_bytes : ℕ → ℕ → ℕ → ℕ → ℕ → List ℕ
word_bytes code w0 w1 w2 w3 = code ∷ digits 8 w0 ++ (digits 8 w1 ++ (digits 8 w2 ++ digits 8 w3))

-- the bytes of a primitive; of a code that is no byte, the lowest byte
unfoldable pub matter_bytes : Matter → List ℕ
matter_bytes m = word_bytes (m.code % 256) m.w0 m.w1 m.w2 m.w3

-- the primitive in the 33 bytes from at, or none where they are not all there
unfoldable pub read_matter : List ℕ → ℕ → Matter
read_matter s at =
    cond (room s at 33)
    (record { code = get_or s at 0; w0 = number s (at + 1) 8; w1 = number s (at + 9) 8; w2 = number s (at + 17) 8; w3 = number s (at + 25) 8 })
    none

-- the digest at a place, whatever its letter is
abbrev pub said_at : List ℕ → ℕ → Said
said_at s at = record { 0 = read_matter s at }

-- equal when all 33 bytes are: the letter and the four words
unfoldable pub eq_matter : Matter → Matter → Bool
eq_matter a b = eqb a.code b.code && (eqb a.w0 b.w0 && (eqb a.w1 b.w1 && (eqb a.w2 b.w2 && eqb a.w3 b.w3)))

abbrev pub eq_said : Said → Said → Bool
eq_said a b = eq_matter a.0 b.0

abbrev pub eq_prefix : BasicPrefix → BasicPrefix → Bool
eq_prefix a b = eq_matter a.0 b.0

-- the letters B and D
unfoldable pub is_basic : Matter → Bool
is_basic m = eqb m.code 66 || eqb m.code 68

-- the letters E, F, G, H and I
unfoldable pub is_said : Matter → Bool
is_said m = leb 69 m.code && leb m.code 73
