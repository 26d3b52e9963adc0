use Prim.Native.Nat.{ℕ, ◌<◌}
use mathlib.Core.Path.{◌≡◌}
use mathlib.Core.Bool.{true, false}
use lib.ListN.{take}
use Rattle.events.specs.Members.{at, has}
use Rattle.registry_state.specs.States.{is_backer}
use Rattle.ledger_registry_rules.proofs.rules.backers_sound.Given as goal

abbrev pub invariant-loop-i : goal.invariant-loop-i
invariant-loop-i l = record {
  once : (k : ℕ) → k < l.i → has (at l.backers k) (take k l.backers) ≡ false;
  lettered : (k : ℕ) → k < l.i → is_backer (at l.backers k) ≡ true;
}
