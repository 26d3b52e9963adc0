-- The signatures of an attempt: their layout and limits, and how they are read (docs/RULES.md, "Bytes").
use Rattle.std.specs.Prelude.{ℕ, ◌^◌, List, [], ◌∷◌, ◌++◌, Bool, ◌&&◌, leb, ltb}
use Rattle.laws.specs.Number.{digits}
use Rattle.codec.specs.Readers.{Reader, placed, read_byte_if, read_quad, mapped, both, times, count_up_to, section}
use Rattle.registry_signatures.specs.declared.Counted.{Counted}
use Rattle.registry_signatures.specs.declared.Signature.{Signature}

abbrev pub signature_bytes : Signature → List ℕ
signature_bytes x = digits 4 x.index ++ (x.verdict ∷ [])

unfoldable pub good_signature : Signature → Bool
good_signature x = ltb x.index (2 ^ 32) && leb x.verdict 1

-- how one is read
abbrev pub signature_of : ℕ × ℕ → Signature
signature_of t = record { index = t.0; verdict = t.1 }

unfoldable pub read_signature : Reader Signature
read_signature s c = mapped signature_of (both read_quad (read_byte_if (λ v. leb v 1))) s c

-- those that stand in a part of an attempt's bytes
unfoldable pub signatures_in : List ℕ → Counted → List Signature
signatures_in s p = (times p.count read_signature s (placed p.from)).value

-- where the section's signatures stand, behind the count byte, and the cursor behind them
unfoldable pub passed_signatures : Reader Counted
passed_signatures s c =
    record { value = record { from = (count_up_to 64 s c).next.at; count = (count_up_to 64 s c).value }; next = (section 64 read_signature s c).next }
