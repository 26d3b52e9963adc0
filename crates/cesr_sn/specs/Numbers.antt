-- The sequence number: 128 bits in two words (docs/RULES.md, "Bytes").
use Rattle.std.specs.Prelude.{ℕ, ◌+◌, ◌*◌, ◌/◌, ◌%◌, ◌^◌, List}
use Rattle.cesr_number.specs.Number.{number_at, digits}
use Rattle.cesr_sn.specs.declared.Sn.{Sn}

-- the number that the two words stand for
unfoldable pub value : Sn → ℕ
value n = n.hi * 2 ^ 64 + n.lo

-- the two words of a number, which goes round at 2 ^ 128
unfoldable pub sn_of : ℕ → Sn
sn_of v = record { hi = v / 2 ^ 64 % 2 ^ 64; lo = v % 2 ^ 64 }

-- the sequence number in the 16 bytes from at, or 0 where they are not all there
unfoldable pub read_sn : List ℕ → ℕ → Sn
read_sn s at = sn_of (number_at s at 16)

-- its 16 bytes
unfoldable pub sn_bytes : Sn → List ℕ
sn_bytes n = digits 16 (value n)
