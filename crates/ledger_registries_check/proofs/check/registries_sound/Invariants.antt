use Rattle.ledger_registries_check.proofs.Sound.{Kept}
use Rattle.ledger_registries_check.proofs.check.registries_sound.Given as goal

-- the registries that were passed are sound
abbrev pub invariant-loop-i : goal.invariant-loop-i
invariant-loop-i l = Kept l.registries l.i
