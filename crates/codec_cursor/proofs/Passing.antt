-- A primitive that is passed by its letter: the cursor is the one behind the primitive that is read.
use Prim.Native.Nat.{ℕ, ◌+◌}
use mathlib.Core.Path.{◌≡◌, refl, sym, ◌∙◌, ap}
use mathlib.Core.List.{List}
use mathlib.Core.Bool.{Bool, true, false, cond, ◌&&◌}
use native.Mathlib.Nat.{add-zero, zero-mul, zero-add}
use native.Mathlib.Omega.{arith}
use Rattle.cesr_number.specs.Number.{number, number_at}
use Rattle.cesr_number.specs.Room.{room}
use Rattle.cesr_number.proofs.Number.{whole-number}
use Rattle.cesr_number.proofs.Room.{room-true}
use Rattle.cesr.specs.Primitives.{read_matter}
use Rattle.codec_cursor.specs.declared.Cursor.{Cursor}
use Rattle.codec_cursor.specs.Readers.{advanced, need, stopped}

-- the letter of a primitive whose bytes are all there
letter_at : (s : List ℕ) (at : ℕ) → room s at 33 ≡ true → number_at s at 1 ≡ (read_matter s at).code
unfolding read_matter number
letter_at s at h = whole-number s at 1 (omega (arith, room-true s at 33 h)) ∙ rw (h, add-zero, zero-mul, zero-add)

-- where they are not, the cursor has stopped
no_room : (s : List ℕ) (c : Cursor) → room s c.at 33 ≡ false → advanced s c 33 ≡ stopped
unfolding advanced
no_room s c h = rw h (go c.ok)
  where
    go : (t : Bool) → cond (t && false) (record { ok = true; at = c.at + 33 }) stopped ≡ stopped
    go true = refl
    go false = refl

stays : (t : Bool) → need stopped t ≡ stopped
unfolding need
stays true = refl
stays false = refl

-- whatever is asked of the letter
pub passed-by : (f : ℕ → Bool) (s : List ℕ) (c : Cursor) → need (advanced s c 33) (f (number_at s c.at 1)) ≡ need (advanced s c 33) (f (read_matter s c.at).code)
passed-by f s c = go (room s c.at 33) refl
  where
    go : (t : Bool) → room s c.at 33 ≡ t → need (advanced s c 33) (f (number_at s c.at 1)) ≡ need (advanced s c 33) (f (read_matter s c.at).code)
    go true h = ap (λ x. need (advanced s c 33) (f x)) (letter_at s c.at h)
    go false h = rw (no_room s c h) (stays _ ∙ sym (stays _))
