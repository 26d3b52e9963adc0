use mathlib.Core.Path.{◌∙◌}
use Rattle.images.specs.Judgement.{agrees_of}
use Rattle.images.proofs.Laws.{refusal-is}
use Rattle.images.proofs.answer.agrees.Goals as goal

pub returns : goal.returns
unfolding agrees_of
returns c =
    rw (c.number.ensures, c.number-2.ensures ∙ refusal-is c.args.f.found, c.standing_number.ensures, c.read_u8-4.ensures, c.read_u8-3.ensures, c.read_u32.ensures, c.read_u16-2.ensures, c.read_u16.ensures, c.read_u8-2.ensures, c.read_u8.ensures)
