use Prim.Native.Nat.{◌≤◌}
use mathlib.Core.Path.{◌≡◌}
use Rattle.events_tel.specs.Readers.{read_prefix, times}
use Rattle.codec.proofs.section.pass_prefixes.Given as goal

abbrev pub invariant-loop-i : goal.invariant-loop-i
invariant-loop-i l = (l._i ≤ l.count) × (l.next ≡ (times l._i read_prefix l.s l.initial.next).next)
