use Rattle.laws.proofs.Number.{digits-rest}
use Rattle.ledger_image.proofs.image.write_count.Goals as goal

pub returns : goal.returns
returns c =
    rw (← digits-rest 2 c.args.count) c.write_u16.ensures
