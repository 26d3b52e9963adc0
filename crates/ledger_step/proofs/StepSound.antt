-- A call leaves a sound ledger sound.
--     acts         a sound ledger comes to what the request asks
--     step-sound   the law
use Prim.Native.Nat.{ℕ}
use mathlib.Core.Path.{◌≡◌}
use mathlib.Core.Bool.{true}
use mathlib.Core.List.{List}
use Rattle.ledger_step.specs.Ledgers.{Ledger, sound}
use Rattle.ledger_step.specs.Steps.{Request, request_of, effect_of, effect, changed, step_of}
use Rattle.ledger_step.proofs.Rules.{Keeps, parts, whole}
use Rattle.ledger_step.proofs.Changes.{request-read, effect-legal, keeps-changed}

pub acts : (s : Ledger) (q : Request) → Keeps s → effect s q ≡ effect_of s q
unfolding effect
acts s q k = rw (whole s k)

-- From a ledger that keeps the reading rules a call, accepted or refused, leaves one that keeps them.
pub step-sound : (l : Ledger) (s : List ℕ) → sound l ≡ true → sound (step_of l s).ledger ≡ true
unfolding step_of
step-sound l s h =
    let k = parts l h in
    let q = request_of s in
    rw (acts l q k) (whole (changed l (effect_of l q)) (keeps-changed l q (effect_of l q) k (effect-legal l q k (request-read s))))
