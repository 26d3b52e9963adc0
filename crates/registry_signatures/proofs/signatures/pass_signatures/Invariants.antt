use Prim.Native.Nat.{◌≤◌}
use mathlib.Core.Path.{◌≡◌}
use Rattle.codec.specs.Readers.{times}
use Rattle.registry_signatures.specs.SignatureSections.{read_signature}
use Rattle.registry_signatures.proofs.signatures.pass_signatures.Given as goal

abbrev pub invariant-loop-i : goal.invariant-loop-i
invariant-loop-i l = (l._i ≤ l.count) × (l.next ≡ (times l._i read_signature l.s l.initial.next).next)
