use Prim.Native.Nat.{min}
use mathlib.Core.Path.{sym, ◌∙◌}
use native.Mathlib.Omega.{arith}
use Rattle.codec.specs.TelEvents.{members_in}
use Rattle.codec_cursor.specs.Readers.{read_prefix}
use Rattle.codec.proofs.Loops.{length-times}
use Rattle.registry_backing.proofs.backing.backed_in.Goals as goal

pub returns : goal.returns
unfolding members_in
returns c =
    let q = c.args in
    let n = min q.backers.count 16 in
    let long = length-times read_prefix q.held.now q.backers.start n in
    c.backed_by.ensures (members_in q.held.now q.backers)
    record { members = c.check_members-repeat.ensures.answer; count = c.at_most_16-count.ensures ∙ sym long; few = rw long (omega arith) }
