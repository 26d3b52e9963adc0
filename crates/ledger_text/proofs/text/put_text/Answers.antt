use Rattle.std.proofs.Common.{◌≡◌, ◌+◌, ◌-◌, length, arith}
use Rattle.ledger_text.proofs.Decimals.{copied}
use Rattle.ledger_text.proofs.text.put_text.Goals as goal

pub returns : goal.returns
returns c =
    let k : c.args.at + length c.args.text.now - c.args.at ≡ length c.args.text.now = omega arith in
    rw c.copy_from_slice.ensures.after (copied c.args.out.now c.args.text.now c.args.at _ k (omega arith))
