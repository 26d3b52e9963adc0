use mathlib.Core.Path.{◌∙◌}
use Rattle.cesr_number.proofs.BeBytes.{number-64, read-part, read-short}
use Rattle.cesr_number.proofs.number.read_u64.Goals as goal

pub returns-in-Some : goal.returns-in-Some
returns-in-Some c =
    let b = c.in-Some.ensures in
    c.from_be_bytes.ensures ∙ number-64 _ ∙ read-part _ _ c.args.at 8 b.0 b.1

pub returns-in-None : goal.returns-in-None
returns-in-None c = read-short _ c.args.at 8 c.in-None.ensures
