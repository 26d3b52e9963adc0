use Rattle.std.proofs.Common.{◌≡◌, ◌<◌}
use Rattle.images.specs.Judgement.{digest_up_to}
use Rattle.images.proofs.answer.digest.Given as goal

abbrev pub invariant-loop-byte : goal.invariant-loop-byte
invariant-loop-byte l = (l.c < 4294967291) × (l.c ≡ digest_up_to l.s l.byte-index)
