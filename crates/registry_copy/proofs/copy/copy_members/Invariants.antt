use mathlib.Core.Path.{◌≡◌}
use lib.ListN.{length}
use lib.Seq.{sets}
use Rattle.codec.specs.Layout.{joined, prefix_bytes}
use Rattle.codec_cursor.specs.Readers.{read_prefix, times}
use Rattle.registry_copy.proofs.copy.copy_members.Given as goal

abbrev pub invariant-loop-i : goal.invariant-loop-i
invariant-loop-i l =
    (length l.out ≡ length l.initial.out)
    × (l.c ≡ (times l.i read_prefix l.s l.initial.c).next)
    × (l.out ≡ sets l.initial.out l.at (joined prefix_bytes (times l.i read_prefix l.s l.initial.c).value))
