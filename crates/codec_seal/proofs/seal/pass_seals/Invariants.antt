use Prim.Native.Nat.{◌≤◌}
use mathlib.Core.Path.{◌≡◌}
use Rattle.codec.specs.Readers.{times}
use Rattle.codec.specs.Events.{read_seal}
use Rattle.codec_seal.proofs.seal.pass_seals.Given as goal

abbrev pub invariant-loop-i : goal.invariant-loop-i
invariant-loop-i l = (l._i ≤ l.count) × (l.next ≡ (times l._i read_seal l.s l.initial.next).next)
