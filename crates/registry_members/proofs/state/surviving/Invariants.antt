use Rattle.std.proofs.Common.{◌≡◌, ◌≤◌, length, take, drop}
use Rattle.registry_members.specs.Updated.{survivors}
use Rattle.registry_members.proofs.state.surviving.Given as goal

abbrev pub invariant-loop : goal.invariant-loop
invariant-loop g l = record {
  rest : g.C.Prefixes.list l.rest ≡ drop l.counter (g.C.Prefixes.list l.fn.current);
  count : l.left ≡ length (survivors (g.L.Prefixes.list l.cuts) (take l.counter (g.C.Prefixes.list l.fn.current)));
  few : l.left ≤ l.counter;
}
