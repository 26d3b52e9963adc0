use Rattle.std.proofs.Common.{◌≡◌}
use Rattle.events.specs.Members.{has}
use Rattle.codec.specs.Readers.{read_prefix, times}
use Rattle.registry_rotation.proofs.deltas.found_in.Given as goal

abbrev pub invariant-loop : goal.invariant-loop
invariant-loop l = record {
  next : l.c ≡ (times l.counter read_prefix l.s l.initial.c).next;
  found : l.found ≡ has l.x (times l.counter read_prefix l.s l.initial.c).value;
}
