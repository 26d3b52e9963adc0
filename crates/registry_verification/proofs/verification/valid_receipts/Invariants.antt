use Prim.Native.Nat.{◌≤◌}
use mathlib.Core.Path.{◌≡◌}
use lib.ListN.{length}
use Rattle.codec_cursor.specs.Readers.{times}
use Rattle.registry_signatures.specs.SignatureSections.{read_signature}
use Rattle.registry_verification.proofs.Marked.{Marked}
use Rattle.registry_verification.proofs.verification.valid_receipts.Given as goal

abbrev pub invariant-loop-i : goal.invariant-loop-i
invariant-loop-i l =
    (l.n ≤ 16)
    × (l.c ≡ (times l._i read_signature l.s l.initial.c).next)
    × Marked l.n (record { seen = l.seen; valid = l.valid }) (times l._i read_signature l.s l.initial.c).value
    × (length l.seen ≡ 16)
