use Prim.Native.Nat.{ℕ, ◌<◌}
use mathlib.Core.Path.{◌≡◌}
use mathlib.Core.Bool.{true}
use lib.ListN.{get_or}
use Rattle.events.specs.Members.{view, no_prefix}
use Rattle.registry_state.specs.States.{is_backer}
use Rattle.registry_state.proofs.state.all_backers.Given as goal

abbrev pub invariant-loop-i : goal.invariant-loop-i
invariant-loop-i l = (k : ℕ) → k < l.i → is_backer (get_or (view l.backers) k no_prefix) ≡ true
