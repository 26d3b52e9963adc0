use Rattle.std.proofs.Common.{◌≡◌, ◌≤◌, ◌++◌, take, drop}
use Rattle.events.specs.Members.{view}
use Rattle.registry_members.specs.Updated.{survivors}
use Rattle.registry_members.proofs.state.updated_members.Given as goal

abbrev pub invariant-loop-p : goal.invariant-loop-p
invariant-loop-p g l = record {
  list : view l.members ≡ survivors (g.L.Prefixes.list l.cuts) (take l.p-index l.current);
  count : l.members.count ≤ 16;
}

abbrev pub invariant-loop : goal.invariant-loop
invariant-loop g l = record {
  rest : g.L.Prefixes.list l.rest ≡ drop l.counter (g.L.Prefixes.list l.fn.additions);
  list : view l.members ≡ survivors (g.L.Prefixes.list l.fn.cuts) l.current ++ take l.counter (g.L.Prefixes.list l.fn.additions);
  count : l.members.count ≤ 16;
}
