use mathlib.Core.Path.{◌≡◌, refl, sym, ap, ◌∙◌}
use mathlib.Core.Bool.{Bool, true, false, and-false, ◌&&◌}
use Prim.Native.Nat.{ℕ, ◌+◌, ◌-◌, ◌*◌, ◌/◌, ◌<◌, ◌≤◌}
use native.Mathlib.Omega.{arith}
use borrow.Author.Tests.{le-leb, lt-leb, leb-true, leb-false}
use lib.Dec.{leb}
use Rattle.ledger_sections.proofs.rows.section_fits.Goals as goal

-- there is no room for the count
too_short : (n held room : ℕ) → room < 2 → false ≡ (leb n held && leb (2 + 115 * n) room)
too_short n held room h = sym (rw (lt-leb (2 + 115 * n) room (omega arith)) (and-false (leb n held)))

-- as many rows fit as the rest of the room holds
same_test : (n room : ℕ) → 2 ≤ room → leb n ((room - 2) / 115) ≡ leb (2 + 115 * n) room
same_test n room h = go (leb n ((room - 2) / 115)) refl
  where
    go : (t : Bool) → leb n ((room - 2) / 115) ≡ t → leb n ((room - 2) / 115) ≡ leb (2 + 115 * n) room
    go true e = e ∙ sym (le-leb (2 + 115 * n) room (omega (arith, leb-true n ((room - 2) / 115) e)))
    go false e = e ∙ sym (lt-leb (2 + 115 * n) room (omega (arith, leb-false n ((room - 2) / 115) e)))

pub returns-then-room-lt2 : goal.returns-then-room-lt2
returns-then-room-lt2 c = let a = c.args in too_short a.count a.held a.room c.if-room-lt2.true

pub returns : goal.returns
returns c = let a = c.args in ap (λ (t : Bool). leb a.count a.held && t) (same_test a.count a.room c.if-room-lt2.false)
