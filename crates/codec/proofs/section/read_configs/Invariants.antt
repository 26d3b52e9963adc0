use Prim.Native.Nat.{ℕ, ◌≤◌}
use mathlib.Core.Path.{◌≡◌}
use mathlib.Core.List.{List}
use Rattle.events_tel.specs.Configs.{view_configs}
use Rattle.events_tel.specs.Readers.{times}
use Rattle.events_tel.specs.declared.Read.{Read}
use Rattle.codec.specs.Events.{read_config}
use Rattle.codec.proofs.section.read_configs.Given as goal

abbrev pub invariant-loop-i : goal.invariant-loop-i
invariant-loop-i l =
    (l._i ≤ l.count) × (◌≡◌ {A = Read (List ℕ)} (record { value = view_configs l.value; next = l.next }) (times l._i read_config l.s l.initial.next))
