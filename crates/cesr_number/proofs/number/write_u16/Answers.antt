use Rattle.cesr_number.proofs.BeBytes.{digits-16}
use Rattle.cesr_number.proofs.number.write_u16.Goals as goal

pub returns : goal.returns
returns c = rw (← digits-16 c.args.x, ← c.to_be_bytes.ensures) c.store.ensures
