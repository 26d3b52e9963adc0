use Prim.Native.Nat.{◌≤◌}
use mathlib.Core.Path.{◌≡◌}
use lib.ListN.{length}
use lib.Seq.{sets}
use Rattle.codec.specs.Layout.{joined, prefix_bytes}
use Rattle.codec_cursor.specs.Readers.{read_prefix, times}
use Rattle.registry_members.specs.Updated.{survivors}
use Rattle.registry_copy.proofs.copy.copy_survivors.Given as goal

abbrev pub invariant-loop-i : goal.invariant-loop-i
invariant-loop-i l =
    (l.left ≤ l._i)
    × (l.c ≡ (times l._i read_prefix l.held l.initial.c).next)
    × (l.left ≡ length (survivors (times l.m read_prefix l.s l.cuts.start).value (times l._i read_prefix l.held l.initial.c).value))
    × (length l.out ≡ length l.initial.out)
    × (l.out ≡ sets l.initial.out 1 (joined prefix_bytes (survivors (times l.m read_prefix l.s l.cuts.start).value (times l._i read_prefix l.held l.initial.c).value)))
