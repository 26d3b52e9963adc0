use Rattle.events_tel.specs.Readers.{section}
use Rattle.codec.specs.Events.{read_prefixes}
use Rattle.codec.proofs.Loops.{count-within}
use Rattle.codec.proofs.section.read_prefixes.Goals as goal

pub read_members-requires : goal.read_members-requires
read_members-requires c = count-within 16 _ _ _ c.count_up_to-n.ensures

pub returns : goal.returns
unfolding read_prefixes section
returns c =
    let n = c.count_up_to-n.ensures in
    record { read = rw (← n) c.read_members.ensures.read; count = rw c.read_members.ensures.count (count-within 16 _ _ _ n) }
