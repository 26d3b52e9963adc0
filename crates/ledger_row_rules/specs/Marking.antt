-- The marks of the credentials that were met, as the check of all rows keeps them.
use Rattle.std.specs.Prelude.{ℕ, ◌*◌, ◌/◌, ◌%◌, ◌^◌, cond, eqb, get_or, set, replicate}
use Rattle.std.specs.Int.Bits.{bit_and, bit_or}
use Rattle.cesr.specs.declared.Said.{Said}
use Rattle.ledger_row_rules.specs.declared.marks.Marks.{Marks}

-- the word in which the credential's bit stands, and the bit
abbrev pub word_of : Said → ℕ
word_of c = c.0.w0 / 64 % 16

abbrev pub bit_of : Said → ℕ
bit_of c = 1 * 2 ^ (c.0.w0 % 64) % 2 ^ 64

unfoldable pub no_marks : Marks
no_marks = record { seen = replicate 16 0 }

-- the marks with the credential's bit set
unfoldable pub marking : Marks → Said → Marks
marking m c = record { seen = set m.seen (word_of c) (bit_or (get_or m.seen (word_of c) 0) (bit_of c)) }

-- how many of the i rows before have to be searched for the credential: none where its bit is not set
unfoldable pub to_search : Marks → Said → ℕ → ℕ
to_search m c i = cond (eqb (bit_and (get_or m.seen (word_of c) 0) (bit_of c)) (bit_of c)) i 0
