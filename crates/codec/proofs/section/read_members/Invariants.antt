use Prim.Native.Nat.{◌≤◌}
use mathlib.Core.Path.{◌≡◌}
use mathlib.Core.List.{List}
use lib.ListN.{length, take}
use Rattle.events.specs.declared.BasicPrefix.{BasicPrefix}
use Rattle.events_tel.specs.Readers.{read_prefix, times}
use Rattle.events_tel.specs.declared.Read.{Read}
use Rattle.codec.proofs.section.read_members.Given as goal

abbrev pub invariant-loop-i : goal.invariant-loop-i
invariant-loop-i l =
    (l.i ≤ l.count) × (length l.items ≡ 16) × (◌≡◌ {A = Read (List BasicPrefix)} (record { value = take l.i l.items; next = l.next }) (times l.i read_prefix l.s l.initial.next))
