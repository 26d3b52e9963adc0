use mathlib.Core.Path.{◌∙◌}
use Rattle.ledger_text.specs.Lines.{last_line}
use Rattle.ledger_text.proofs.LineLaws.{last-length, last-put, written, unwritten}
use Rattle.ledger_text.proofs.text.write_counts.Goals as goal

pub returns-then-not-has_room-clause-value : goal.returns-then-not-has_room-clause-value
returns-then-not-has_room-clause-value c =
    let a = c.args in
    unwritten a.out.now (last_line a.registries a.credentials) _ (last-length _ _ _ _ c.places-p.ensures.value c.places-q.ensures.value) c.if-not-has_room.ensures

pub returns-clause-value : goal.returns-clause-value
returns-clause-value c =
    let a = c.args in
    let p = c.places-p.ensures.value in
    let q = c.places-q.ensures.value in
    written a.out.now (last_line a.registries a.credentials) _ _ (last-length _ _ _ _ p q) c.if-not-has_room.ensures
    (c.put_number-2.ensures ∙ rw (c.put_text-2.ensures, c.put_number.ensures, c.put_text.ensures) (last-put _ a.registries a.credentials _ _ p q))
