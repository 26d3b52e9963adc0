use Rattle.ledger_sections.proofs.SectionWrites.{head-room, head-full}
use Rattle.ledger_sections.proofs.registries.write_head.Goals as goal

pub returns-then-size-out : goal.returns-then-size-out
returns-then-size-out c =
    head-room _ _ _ _ _ c.if-size-out.true c.section_count-n.ensures c.write_count.ensures.1

pub returns : goal.returns
returns c = head-full _ _ _ c.if-size-out.false
