use Rattle.events_tel.proofs.ConfigLaws.{any_has}
use Rattle.events_tel.proofs.Configs.has.Goals as goal

pub returns : goal.returns
returns c = rw (c.contains.ensures.value, c.as_slice.ensures) (any_has c.args.code _)
