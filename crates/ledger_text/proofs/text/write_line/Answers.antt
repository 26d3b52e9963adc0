use mathlib.Core.Path.{◌∙◌}
use Rattle.ledger_text.specs.Lines.{line_bytes}
use Rattle.ledger_text.proofs.LineLaws.{line-length, line-put, written, unwritten}
use Rattle.ledger_text.proofs.text.write_line.Goals as goal

pub returns-then-not-has_room-clause-value : goal.returns-then-not-has_room-clause-value
returns-then-not-has_room-clause-value c =
    let a = c.args in
    unwritten a.out.now (line_bytes a.position a.number a.letter) _ (line-length _ _ a.letter _ _ c.places-p.ensures.value c.places-q.ensures.value) c.if-not-has_room.ensures

pub returns-clause-value : goal.returns-clause-value
returns-clause-value c =
    let a = c.args in
    let p = c.places-p.ensures.value in
    let q = c.places-q.ensures.value in
    written a.out.now (line_bytes a.position a.number a.letter) _ _ (line-length _ _ a.letter _ _ p q) c.if-not-has_room.ensures
    (c.put_end.ensures ∙ rw (c.put_number-2.ensures, c.put_number.ensures) (line-put _ a.position a.number a.letter _ _ p q))
