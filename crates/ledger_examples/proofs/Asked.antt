-- Runs, by what their attempts ask.
--     asks          the bytes of a message within the limits ask what it says
--     numbers-by    the numbers of a run, by its requests
use Prim.Native.Nat.{ℕ}
use mathlib.Core.Path.{◌≡◌, refl, ap}
use mathlib.Core.Bool.{true}
use mathlib.Core.List.{List, [], ◌∷◌, map}
use Rattle.registry_wire.specs.Attempts.{Message, attempt_bytes, good_message, decode_of}
use Rattle.registry_wire.specs.Attempts.Decoded.{decoded}
use Rattle.registry_wire.proofs.CodesAttempt.{codes-message}
use Rattle.codec_laws.proofs.CodesRound.{whole-complete}
use Rattle.registry_error.specs.Errors.{answer_number}
use Rattle.ledger_step.specs.Ledgers.{Ledger}
use Rattle.ledger_step.specs.Steps.{Request, event_request, request_of, effect, answer_of, changed, step_of}
use Rattle.ledger_step.specs.Orders.{answers}
use Rattle.ledger_examples.specs.Conditions.{numbers_of}

reads : (m : Message) → good_message m ≡ true → decode_of (attempt_bytes m) ≡ decoded m
unfolding decode_of
reads m g = let w = whole-complete codes-message (attempt_bytes m) m refl g in rw (w.0, w.1)

pub asks : (m : Message) → good_message m ≡ true → request_of (attempt_bytes m) ≡ event_request m.event m
unfolding request_of
asks m g = rw (reads m g)

unfoldable pub numbers_by : Ledger → List Request → List ℕ
numbers_by l [] = []
numbers_by l (q ∷ qs) = answer_number (answer_of (effect l q)) ∷ numbers_by (changed l (effect l q)) qs

pub numbers-by : (l : Ledger) (xs : List (List ℕ)) → numbers_of l xs ≡ numbers_by l (map request_of xs)
unfolding numbers_by answers step_of
numbers-by l [] = refl
numbers-by l (s ∷ xs) = ap (λ (ns : List ℕ). answer_number (answer_of (effect l (request_of s))) ∷ ns) (numbers-by (step_of l s).ledger xs)
