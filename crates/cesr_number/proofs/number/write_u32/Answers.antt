use Rattle.cesr_number.proofs.BeBytes.{digits-32}
use Rattle.cesr_number.proofs.number.write_u32.Goals as goal

pub returns : goal.returns
returns c = rw (← digits-32 c.args.x, ← c.to_be_bytes.ensures) c.store.ensures
