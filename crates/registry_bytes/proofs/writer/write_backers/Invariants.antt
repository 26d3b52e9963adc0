use mathlib.Core.Path.{◌≡◌}
use lib.ListN.{length, take}
use lib.Seq.{sets}
use Rattle.events.specs.Members.{view}
use Rattle.codec_laws.specs.Layout.{joined, prefix_bytes}
use Rattle.registry_bytes.proofs.writer.write_backers.Given as goal

abbrev pub invariant-loop-i : goal.invariant-loop-i
invariant-loop-i l = (length l.out ≡ length l.initial.out) × (l.out ≡ sets l.initial.out 1 (joined prefix_bytes (take l.i (view l.backers))))
