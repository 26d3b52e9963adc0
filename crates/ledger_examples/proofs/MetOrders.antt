-- The conditions of the claim about two orders can be met (docs/RULES.md, "Two orders").
--     conditions-met   the example of specs/Examples
use Prim.Native.Nat.{ℕ, ◌+◌, ◌<◌}
use Rattle.cesr.specs.Primitives.{eq_matter}
use mathlib.Core.Path.{◌≡◌, refl, sym, ap, ◌∙◌}
use mathlib.Core.Logic.{◌≢◌}
use mathlib.Core.Bool.{true}
use mathlib.Core.List.{List, [], ◌∷◌, map}
use native.Mathlib.Omega.{arith}
use borrow.Author.Tests.{leb-true}
use lib.Dec.{leb, lit<}
use lib.ListN.{length, get_or, get_elem?}
use Rattle.codec.specs.Layout.{six_sections, event_bytes}
use Rattle.registry_wire.specs.Attempts.{Decoded, attempt_bytes, decode_of}
use Rattle.registry_wire.specs.Attempts.Decoded.{malformed, decoded}
use Rattle.registry_wire.proofs.CodesAttempt.{decodes}
use Rattle.registry_error.specs.declared.RegistryRejection.TheVariants.{Malformed}
use Rattle.ledger_step.specs.Steps.{decoded_request, request_of}
use Rattle.ledger_step.specs.Steps.Request.{nothing}
use Rattle.ledger_step.specs.Orders.{Each, Matched, KeepsOrder}
use Rattle.ledger_step.specs.OrderFreedom.{class_of, admitted_by, Admitted, new_pairs}
use Rattle.ledger_step.proofs.TwoOrders.{order-free}
use Rattle.ledger_step.specs.Tables.{has, find}
use Rattle.ledger_examples.specs.Conditions.{numbers_of}
use Rattle.ledger_examples.specs.Examples.{issued, revoked, absent, no_bytes, first_rotation, second_rotation, plain_and_backed, one_order, other_order, ConditionsMet}
use Rattle.ledger_examples.proofs.Computations as X
use Rattle.ledger_examples.proofs.Asked.{asks, numbers-by}
use Rattle.ledger_examples.proofs.Cases.{asked}
use Rattle.ledger_examples.proofs.Reordered.{upto-at, all-each, before, ordered, ordered_at}

-- the place in the other list of what stands at a place of the one, and the other way round
abbrev to : ℕ → ℕ
to i = get_or (2 ∷ 5 ∷ 1 ∷ 4 ∷ 3 ∷ 0 ∷ []) i 0

abbrev from : ℕ → ℕ
from i = get_or (5 ∷ 2 ∷ 0 ∷ 4 ∷ 3 ∷ 1 ∷ []) i 0

abbrev matched : Matched one_order other_order
matched = record
    { to = to; from = from; to_in = upto-at (λ i. to i < 6) one_order (lit< tt, (lit< tt, (lit< tt, (lit< tt, (lit< tt, (lit< tt, tt)))))); from_in = upto-at (λ i. from i < 6) other_order (lit< tt, (lit< tt, (lit< tt, (lit< tt, (lit< tt, (lit< tt, tt)))))); from-to = upto-at (λ i. from (to i) ≡ i) one_order (refl, (refl, (refl, (refl, (refl, (refl, tt)))))); to-from = upto-at (λ i. to (from i) ≡ i) other_order (refl, (refl, (refl, (refl, (refl, (refl, tt)))))); same = upto-at (λ i. get_elem? other_order (to i) ≡ get_elem? one_order i) one_order (refl, (refl, (refl, (refl, (refl, (refl, tt)))))) }

-- no bytes are no attempt's: an attempt has its kind's
none_read : (d : Decoded) → decode_of no_bytes ≡ d → d ≡ malformed
unfolding attempt_bytes event_bytes six_sections
none_read malformed e = refl
none_read (decoded m) e = absurd (omega (arith, ap length ((decodes no_bytes m (λ i. lit< tt)).0 e).0))

none-asks : request_of no_bytes ≡ nothing Malformed
unfolding request_of
none-asks = ap decoded_request (none_read (decode_of no_bytes) refl)

-- what the six ask
a1 : request_of (attempt_bytes first_rotation) ≡ asked first_rotation
a1 = asks first_rotation (X.rotations).good-first

a2 : request_of (attempt_bytes second_rotation) ≡ asked second_rotation
a2 = asks second_rotation (X.rotations).good-second

a3 : request_of (attempt_bytes issued) ≡ asked issued
a3 = asks issued (X.pairs).good-first

a4 : request_of (attempt_bytes revoked) ≡ asked revoked
a4 = asks revoked (X.pairs).good-second

a5 : request_of (attempt_bytes absent) ≡ asked absent
a5 = asks absent X.good-absent

-- the numbers of the two runs
one : numbers_of plain_and_backed one_order ≡ 0 ∷ 0 ∷ 0 ∷ 0 ∷ 5 ∷ 1 ∷ []
one = numbers-by plain_and_backed one_order ∙ rw (a1, a2, a3, a4, a5, none-asks) X.met-one

other : numbers_of plain_and_backed other_order ≡ 1 ∷ 0 ∷ 0 ∷ 5 ∷ 0 ∷ 0 ∷ []
other = numbers-by plain_and_backed other_order ∙ rw (a1, a2, a3, a4, a5, none-asks) X.met-other

different : one_order ≢ other_order
different e = omega (arith, ap (λ (ns : List ℕ). get_or ns 0 0) (sym one ∙ ap (numbers_of plain_and_backed) e ∙ other))

admitted : Each Admitted one_order
admitted = all-each Admitted one_order (ap admitted_by a1, (ap admitted_by a2, (ap admitted_by a3, (ap admitted_by a4, (ap admitted_by a5, (ap admitted_by none-asks, tt))))))

in_order : ordered to (map class_of one_order) ≡ true
unfolding ordered before eq_matter
in_order = rw (a1, a2, a3, a4, a5, none-asks)

keeps : KeepsOrder class_of matched
keeps = ordered_at class_of to one_order in_order

few : leb (plain_and_backed.row_count + length (new_pairs plain_and_backed one_order)) 256 ≡ true
unfolding new_pairs find has
few = rw (a1, a2, a3, a4, a5, none-asks)

-- The claim applies.
pub conditions-met : ConditionsMet
conditions-met = record
    { whole = X.met-whole; first = one; second = other; different = different; matched = matched; admitted = admitted; ordered = keeps; rows = leb-true _ _ few; same = order-free plain_and_backed one_order other_order matched admitted keeps (leb-true _ _ few) }
