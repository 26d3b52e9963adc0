use Rattle.cesr_number.proofs.BeBytes.{digits-64}
use Rattle.cesr_number.proofs.number.write_u64.Goals as goal

pub returns : goal.returns
returns c = rw (← digits-64 c.args.x, ← c.to_be_bytes.ensures) c.store.ensures
