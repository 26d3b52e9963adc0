-- Laws of lines.
--     line-length, last-length       how many bytes a line has
--     line-fits, last_fits, held_fits   how many it has at most
--     number_put, line-put, last-put pieces, one behind the other, are the line
--     written, unwritten             what a writer that tests for room leaves and answers
--     example                        the lines of docs/RULES.md's example
use Prim.Native.Nat.{ℕ, ◌+◌, ◌^◌, ◌≤◌, ◌<◌}
use mathlib.Core.Path.{◌≡◌, refl, ap, sym, ◌∙◌}
use mathlib.Core.Bool.{true, false}
use mathlib.Core.List.{List, [], ◌∷◌, ◌++◌, append_assoc}
use native.Mathlib.Nat.{zero-add}
use native.Mathlib.Omega.{arith}
use lib.Dec.{leb}
use lib.ListN.{length, set, length-append}
use lib.Seq.{sets}
use Rattle.laws.specs.Room.{put}
use Rattle.laws.proofs.Room.{sets-append, stored, refused}
use Rattle.ledger_text.specs.Lines.{decimal, decimal_in, line_bytes, registries_word, credentials_word, last_line, size_in}
use Rattle.ledger_text.proofs.Decimals.{decimal-length, word-length}

pub line-length : (position number letter p q : ℕ) → p ≡ length (decimal position) → q ≡ length (decimal number) → length (line_bytes position number letter) ≡ p + q + 4
unfolding line_bytes
line-length position number letter p q e f = simp length-append (omega arith)

pub last-length : (registries credentials p q : ℕ) → p ≡ length (decimal registries) → q ≡ length (decimal credentials) → length (last_line registries credentials) ≡ p + q + 25
unfolding last_line
last-length registries credentials p q e f = simp length-append (omega arith)

-- An attempt's line has at most 27 bytes.
pub line-fits : (position number letter : ℕ) → position < 2 ^ 64 → number < 256 → length (line_bytes position number letter) ≤ 27
line-fits position number letter h g =
    let p = word-length position h in
    let q = decimal-length 3 number (omega arith) (omega arith) in
    rw (line-length position number letter _ _ refl refl) (omega arith)

-- The last line has at most 65 bytes, whatever the counts,
pub last_fits : (registries credentials : ℕ) → registries < 2 ^ 64 → credentials < 2 ^ 64 → length (last_line registries credentials) ≤ 65
last_fits registries credentials h g =
    let p = word-length registries h in
    let q = word-length credentials g in
    rw (last-length registries credentials _ _ refl refl) (omega arith)

-- and at most 30 for what a ledger can hold. So 64 bytes are always enough.
pub held_fits : (registries credentials : ℕ) → registries ≤ 16 → credentials ≤ 256 → length (last_line registries credentials) ≤ 30
held_fits registries credentials h g =
    let p = decimal-length 2 registries (omega arith) (omega arith) in
    let q = decimal-length 3 credentials (omega arith) (omega arith) in
    rw (last-length registries credentials _ _ refl refl) (omega arith)

pub number_put : (l : List ℕ) (at k : ℕ) (d : List ℕ) (end : ℕ) → k ≡ length d → set (sets l at d) (at + k) end ≡ sets l at (d ++ (end ∷ []))
number_put l at k d end e = rw (sets-append l at d (end ∷ []), e)

-- three runs of stores, one behind the other, and four
three-put : (l a b c : List ℕ) (i j : ℕ) → length a ≡ i → i + length b ≡ j → sets (sets (sets l 0 a) i b) j c ≡ sets l 0 (a ++ (b ++ c))
three-put l a b c i j e f = rw (sets-append l 0 a (b ++ c), zero-add, e, sets-append (sets l 0 a) i b c, f)

four-put : (l a b c d : List ℕ) (i j k : ℕ) → length a ≡ i → i + length b ≡ j → j + length c ≡ k → sets (sets (sets (sets l 0 a) i b) j c) k d ≡ sets l 0 (a ++ (b ++ (c ++ d)))
four-put l a b c d i j k e f g = rw (← three-put l a b (c ++ d) i j e f, sets-append (sets (sets l 0 a) i b) j c d, g)

pub line-put : (l : List ℕ) (position number letter p q : ℕ) → p ≡ length (decimal position) → q ≡ length (decimal number) → sets (sets (sets l 0 (decimal position ++ (32 ∷ []))) (p + 1) (decimal number ++ (32 ∷ []))) (p + q + 2) (letter ∷ 10 ∷ []) ≡ sets l 0 (line_bytes position number letter)
unfolding line_bytes
line-put l position number letter p q e f =
    let d = decimal position in
    let g = decimal number in
    let t : (d ++ (32 ∷ [])) ++ ((g ++ (32 ∷ [])) ++ (letter ∷ 10 ∷ [])) ≡ d ++ (32 ∷ g ++ (32 ∷ letter ∷ 10 ∷ [])) = simp append_assoc in
    three-put l (d ++ (32 ∷ [])) (g ++ (32 ∷ [])) (letter ∷ 10 ∷ []) (p + 1) (p + q + 2) (rw (length-append, e)) (rw (length-append, ← f) (omega arith))
    ∙ ap (λ (bytes : List ℕ). sets l 0 bytes) t

pub last-put : (l : List ℕ) (registries credentials p q : ℕ) → p ≡ length (decimal registries) → q ≡ length (decimal credentials) → sets (sets (sets (sets l 0 (registries_word ++ (32 ∷ []))) 11 (decimal registries ++ (32 ∷ []))) (p + 12) (credentials_word ++ (32 ∷ []))) (p + 24) (decimal credentials ++ (10 ∷ [])) ≡ sets l 0 (last_line registries credentials)
unfolding last_line
last-put l registries credentials p q e f =
    let d = decimal registries in
    let g = decimal credentials in
    let t : (registries_word ++ (32 ∷ [])) ++ ((d ++ (32 ∷ [])) ++ ((credentials_word ++ (32 ∷ [])) ++ (g ++ (10 ∷ [])))) ≡ registries_word ++ (32 ∷ d ++ (32 ∷ credentials_word ++ (32 ∷ g ++ (10 ∷ [])))) = simp append_assoc in
    four-put l (registries_word ++ (32 ∷ [])) (d ++ (32 ∷ [])) (credentials_word ++ (32 ∷ [])) (g ++ (10 ∷ [])) 11 (p + 12) (p + 24) refl (rw (length-append, ← e) (omega arith)) (omega arith)
    ∙ ap (λ (bytes : List ℕ). sets l 0 bytes) t

-- what a writer that tests for room leaves and answers
pub written : (l bytes m : List ℕ) (n : ℕ) → length bytes ≡ n → true ≡ leb (0 + n) (length l) → m ≡ sets l 0 bytes → (n ≡ size_in l bytes) × (m ≡ put l 0 bytes)
unfolding size_in
written l bytes m n e h f = let s = stored l 0 n bytes m e (sym h) f in (rw (e, ← s.0), s.1)

pub unwritten : (l bytes : List ℕ) (n : ℕ) → length bytes ≡ n → false ≡ leb (0 + n) (length l) → (0 ≡ size_in l bytes) × (l ≡ put l 0 bytes)
unfolding size_in
unwritten l bytes n e h = let s = refused l 0 n bytes e (sym h) in (rw (e, ← s.0), s.1)

-- `2 3 C`, and `registries 1 credentials 0`
pub example : (line_bytes 2 3 67 ≡ 50 ∷ 32 ∷ 51 ∷ 32 ∷ 67 ∷ 10 ∷ []) × (last_line 1 0 ≡ registries_word ++ (32 ∷ 49 ∷ 32 ∷ credentials_word ++ (32 ∷ 48 ∷ 10 ∷ [])))
unfolding line_bytes last_line decimal decimal_in
example = (refl, refl)
