use Rattle.std.proofs.Common.{◌≡◌, ◌<◌, ℕ, false, drop}
use Rattle.events.specs.Members.{breaks}
use Rattle.events_member_set.proofs.member_set.check.Given as goal

abbrev pub invariant-loop-at : goal.invariant-loop-at
invariant-loop-at g l = record {
  rest : g.L.Prefixes.list l.rest ≡ drop l.at (g.L.Prefixes.list l.list);
  sound : (k : ℕ) → k < l.at → breaks l.rule (g.L.Prefixes.list l.list) (g.O.Prefixes.list l.other) k ≡ false;
}
