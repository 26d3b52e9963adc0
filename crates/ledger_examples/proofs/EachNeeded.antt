-- Each condition is needed (docs/RULES.md, "Two orders").
--     inceptions-out, present-heads-out, rotations-ordered, pairs-ordered, room-left    the examples of specs/Examples
--     each_needed    one for every condition
use mathlib.Core.Path.{refl, ap}
use mathlib.Core.Logic.{◌≢◌}
use native.Mathlib.Omega.{arith}
use lib.Dec.{lit<}
use Rattle.registry_laws.specs.Pairs.{Pair}
use Rattle.ledger_step.specs.Tables.{find, has}
use Rattle.ledger_examples.specs.Conditions.{Condition, Holds}
use Rattle.ledger_examples.specs.Conditions.Condition.{no_inceptions, no_present_heads, rotations_in_order, pairs_in_order, room}
use Rattle.ledger_examples.specs.Pieces.{inception}
use Rattle.ledger_examples.specs.Examples.{empty, one_plain, one_backed, issued, issued_by_head, revoked, first_rotation, second_rotation, InceptionsOut, PresentHeadsOut, RotationsOrdered, PairsOrdered, one_left, issued_too, RoomLeft, EachNeeded}
use Rattle.ledger_examples.proofs.Cases.{matching, inceptions, heads, rotations, pairs, rows, needed}
use Rattle.ledger_examples.proofs.Computations as X

but-inceptions : (d : Condition) → d ≢ no_inceptions → Holds d empty (matching inception issued)
unfolding find has
but-inceptions no_inceptions h = absurd (h refl)
but-inceptions no_present_heads h = heads X.inceptions refl refl
but-inceptions rotations_in_order h = rotations X.inceptions tt
but-inceptions pairs_in_order h = pairs X.inceptions tt
but-inceptions room h = rows X.inceptions refl

pub inceptions-out : InceptionsOut
inceptions-out = needed X.inceptions no_inceptions but-inceptions 1 0 2 (lit< tt) refl refl (λ e. omega (arith, e))

but-heads : (d : Condition) → d ≢ no_present_heads → Holds d one_backed (matching issued_by_head first_rotation)
unfolding find has
but-heads no_inceptions h = inceptions X.heads refl refl
but-heads no_present_heads h = absurd (h refl)
but-heads rotations_in_order h = rotations X.heads tt
but-heads pairs_in_order h = pairs X.heads tt
but-heads room h = rows X.heads refl

pub present-heads-out : PresentHeadsOut
present-heads-out = needed X.heads no_present_heads but-heads 0 0 23 (lit< tt) refl refl (λ e. omega (arith, e))

but-rotations : (d : Condition) → d ≢ rotations_in_order → Holds d one_backed (matching first_rotation second_rotation)
but-rotations no_inceptions h = inceptions X.rotations refl refl
but-rotations no_present_heads h = heads X.rotations refl refl
but-rotations rotations_in_order h = absurd (h refl)
but-rotations pairs_in_order h = pairs X.rotations tt
but-rotations room h = rows X.rotations refl

pub rotations-ordered : RotationsOrdered
rotations-ordered = needed X.rotations rotations_in_order but-rotations 1 0 16 (lit< tt) refl refl (λ e. omega (arith, e))

but-pairs : (d : Condition) → d ≢ pairs_in_order → Holds d one_plain (matching issued revoked)
unfolding find has
but-pairs no_inceptions h = inceptions X.pairs refl refl
but-pairs no_present_heads h = heads X.pairs refl refl
but-pairs rotations_in_order h = rotations X.pairs tt
but-pairs pairs_in_order h = absurd (h refl)
but-pairs room h = rows X.pairs refl

pub pairs-ordered : PairsOrdered
pairs-ordered = needed X.pairs pairs_in_order but-pairs 1 0 5 (lit< tt) refl refl (λ e. omega (arith, e))

but-room : (d : Condition) → d ≢ room → Holds d one_left (matching issued issued_too)
but-room no_inceptions h = inceptions X.rows refl refl
but-room no_present_heads h = heads X.rows refl refl
but-room rotations_in_order h = rotations X.rows tt
but-room pairs_in_order h =
    pairs X.rows (λ e. omega (arith, ap (λ (k : Pair). k.credential.0.w0) e))
but-room room h = absurd (h refl)

pub room-left : RoomLeft
room-left = needed X.rows room but-room 0 0 29 (lit< tt) refl refl (λ e. omega (arith, e))

pub each_needed : EachNeeded
each_needed no_inceptions = (empty, inception, issued, _, _, inceptions-out)
each_needed no_present_heads = (one_backed, issued_by_head, first_rotation, _, _, present-heads-out)
each_needed rotations_in_order = (one_backed, first_rotation, second_rotation, _, _, rotations-ordered)
each_needed pairs_in_order = (one_plain, issued, revoked, _, _, pairs-ordered)
each_needed room = (one_left, issued, issued_too, _, _, room-left)
