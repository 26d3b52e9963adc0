-- The program's lines, in ASCII (docs/RULES.md, "What the program prints").
use Rattle.std.specs.Prelude.{ℕ, zero, suc, ◌+◌, ◌/◌, ◌%◌, cond, List, [], ◌∷◌, ◌++◌, ltb, length}
use Rattle.laws.specs.Room.{room}

-- the decimal digits of a number: one below ten is its digit, any other is the digits of its tenth, then its last digit. The first number
-- counts the steps down, of which no number takes more than itself and one.
unfoldable pub decimal_in : ℕ → ℕ → List ℕ
decimal_in zero n = []
decimal_in (suc k) n = cond (ltb n 10) ((48 + n) ∷ []) (decimal_in k (n / 10) ++ ((48 + n % 10) ∷ []))

unfoldable pub decimal : ℕ → List ℕ
decimal n = decimal_in (suc n) n

-- position, number and letter, with single spaces, and a newline
unfoldable pub line_bytes : ℕ → ℕ → ℕ → List ℕ
line_bytes position number letter = decimal position ++ (32 ∷ decimal number ++ (32 ∷ letter ∷ 10 ∷ []))

-- `registries` and `credentials`
abbrev pub registries_word : List ℕ
registries_word = 114 ∷ 101 ∷ 103 ∷ 105 ∷ 115 ∷ 116 ∷ 114 ∷ 105 ∷ 101 ∷ 115 ∷ []

abbrev pub credentials_word : List ℕ
credentials_word = 99 ∷ 114 ∷ 101 ∷ 100 ∷ 101 ∷ 110 ∷ 116 ∷ 105 ∷ 97 ∷ 108 ∷ 115 ∷ []

-- both words, each with its count behind it, with single spaces, and a newline
unfoldable pub last_line : ℕ → ℕ → List ℕ
last_line registries credentials =
    registries_word ++ (32 ∷ decimal registries ++ (32 ∷ credentials_word ++ (32 ∷ decimal credentials ++ (10 ∷ []))))

-- `broken`, and a newline
unfoldable pub broken_line : List ℕ
broken_line = 98 ∷ 114 ∷ 111 ∷ 107 ∷ 101 ∷ 110 ∷ 10 ∷ []

-- how many bytes are written at the start of a buffer: all of them where it has room, else none
unfoldable pub size_in : List ℕ → List ℕ → ℕ
size_in out bytes = cond (room out 0 (length bytes)) (length bytes) 0
