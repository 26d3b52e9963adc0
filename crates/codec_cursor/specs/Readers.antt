-- How bytes are read: a cursor, and the readers that a layout is read by. (What a layout is, is said from the value to its bytes, in codec: Layout.)
use Rattle.std.specs.Prelude.{ℕ, zero, suc, ◌+◌, List, [], ◌∷◌, ◌++◌, Bool, true, false, cond, ◌&&◌, ◌||◌, leb, eqb}
use Rattle.cesr_number.specs.Number.{number_at}
use Rattle.cesr_number.specs.Room.{room}
use Rattle.cesr_sn.specs.Numbers.{read_sn}
use Rattle.cesr.specs.Primitives.{read_matter, is_basic, is_said}
use Rattle.cesr_sn.specs.declared.Sn.{Sn}
use Rattle.cesr.specs.declared.Matter.{Matter}
use Rattle.cesr.specs.declared.Said.{Said}
use Rattle.cesr.specs.declared.BasicPrefix.{BasicPrefix}
use Rattle.codec_cursor.specs.declared.Cursor.{Cursor}
use Rattle.codec_cursor.specs.declared.Read.{Read}

-- at the first byte
abbrev pub starting : Cursor
starting = record { ok = true; at = 0 }

-- a cursor that goes on from a place
abbrev pub placed : ℕ → Cursor
placed at = record { ok = true; at = at }

-- a cursor that met a fault
abbrev pub stopped : Cursor
stopped = record { ok = false; at = 0 }

-- past n bytes, or stopped
unfoldable pub advanced : List ℕ → Cursor → ℕ → Cursor
advanced s c n = cond (c.ok && room s c.at n) (record { ok = true; at = c.at + n }) stopped

-- stopped where the test fails
unfoldable pub need : Cursor → Bool → Cursor
need c t = cond t c stopped

abbrev pub Reader : Type 0 → Type 0
Reader A = List ℕ → Cursor → Read A

unfoldable pub read_byte : Reader ℕ
read_byte s c = record { value = number_at s c.at 1; next = advanced s c 1 }

-- a four-byte number
unfoldable pub read_quad : Reader ℕ
read_quad s c = record { value = number_at s c.at 4; next = advanced s c 4 }

-- a 16-byte number
unfoldable pub read_number : Reader Sn
read_number s c = record { value = read_sn s c.at; next = advanced s c 16 }

-- a primitive whose letter passes a test
unfoldable pub read_if : (Matter → Bool) → Reader Matter
read_if test s c = record { value = read_matter s c.at; next = need (advanced s c 33) (test (read_matter s c.at)) }

-- a primitive of this letter and no bytes
abbrev pub letter_only : ℕ → Matter
letter_only code = record { code = code; w0 = 0; w1 = 0; w2 = 0; w3 = 0 }

-- an identifier is basic or a digest
unfoldable pub is_identifier : Matter → Bool
is_identifier m = is_basic m || is_said m

unfoldable pub read_identifier : Reader Matter
read_identifier s c = read_if is_identifier s c

-- what was read, its value under another form
abbrev pub viewed : {A B : Type 0} → (A → B) → Read A → Read B
viewed f r = record { value = f r.value; next = r.next }

-- what a reader gives, under another form
abbrev pub mapped : {A B : Type 0} → (A → B) → Reader A → Reader B
mapped f p s c = viewed f (p s c)

abbrev pub said_of : Matter → Said
said_of m = record { 0 = m }

abbrev pub prefix_of : Matter → BasicPrefix
prefix_of m = record { 0 = m }

unfoldable pub read_said : Reader Said
read_said s c = mapped said_of (read_if is_said) s c

unfoldable pub read_prefix : Reader BasicPrefix
read_prefix s c = mapped prefix_of (read_if is_basic) s c

-- a byte that passes a test
unfoldable pub read_byte_if : (ℕ → Bool) → Reader ℕ
read_byte_if test s c = record { value = (read_byte s c).value; next = need (read_byte s c).next (test (read_byte s c).value) }

-- a count byte that has to be n
unfoldable pub counted : ℕ → List ℕ → Cursor → Cursor
counted n s c = need (read_byte s c).next (eqb (read_byte s c).value n)

-- one reader, then another
abbrev pub both : {A B : Type 0} → Reader A → Reader B → Reader (A × B)
both p q s c = record { value = ((p s c).value, (q s (p s c).next).value); next = (q s (p s c).next).next }

-- a count that has to be n, then a reader; and a reader, then a count that has to be n
abbrev pub after : {A : Type 0} → ℕ → Reader A → Reader A
after n p s c = p s (counted n s c)

abbrev pub ended : {A : Type 0} → Reader A → ℕ → Reader A
ended p n s c = record { value = (p s c).value; next = counted n s (p s c).next }

-- n elements, one behind the other
unfoldable pub times : {A : Type 0} → ℕ → Reader A → Reader (List A)
times zero p s c = record { value = []; next = c }
times (suc n) p s c = let r = times n p s c in let a = p s r.next in record { value = r.value ++ (a.value ∷ []); next = a.next }

-- the count byte of a section of at most limit elements; none are read where it is broken
unfoldable pub count_up_to : ℕ → Reader ℕ
count_up_to limit s c =
    let b = read_byte s c in
    let d = need b.next (leb b.value limit) in
    record { value = cond d.ok b.value 0; next = d }

-- a section: a count byte, at most limit, then that many elements
unfoldable pub section : {A : Type 0} → ℕ → Reader A → Reader (List A)
section limit p s c = let n = count_up_to limit s c in times n.value p s n.next
