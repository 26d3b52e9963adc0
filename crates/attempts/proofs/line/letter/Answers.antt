use mathlib.Core.Path.{ap, ◌∙◌}
use Rattle.registry_disposition.specs.Dispositions.{letter_of}
use Rattle.attempts.proofs.line.letter.Goals as goal

pub returns-in-Err : goal.returns-in-Err
returns-in-Err c = rw c.in-Err.is (c.letter.ensures ∙ ap letter_of c.disposition-d.ensures)
