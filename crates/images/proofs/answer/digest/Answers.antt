use Rattle.std.proofs.Common.{◌≡◌, length, rules, arith}
use Rattle.images.specs.Judgement.{digest_up_to, digest_of}
use Rattle.images.proofs.Laws.{digest-more}
use Rattle.images.proofs.answer.digest.Goals as goal

pub loop-byte-init : goal.loop-byte-init
unfolding digest_up_to
loop-byte-init c = search rules

pub loop-byte-preserved : goal.loop-byte-preserved
loop-byte-preserved c =
    (search rules, digest-more c.args.s.now c.loop-byte.byte-index c.loop-byte.c c.from.result c.loop-byte.invariant.1 c.from.ensures)

pub returns : goal.returns
unfolding digest_of
returns c =
    let end : c.loop-byte.byte-index ≡ length c.args.s.now = omega arith in
    rw (← end) c.loop-byte.invariant.1
