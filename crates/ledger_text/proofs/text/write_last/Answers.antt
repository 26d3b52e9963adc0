use mathlib.Core.Path.{refl}
use Rattle.ledger_text.specs.Lines.{broken_line}
use Rattle.ledger_text.proofs.LineLaws.{written, unwritten}
use Rattle.ledger_text.proofs.text.write_last.Goals as goal

pub returns-then-not-has_room-clause-value : goal.returns-then-not-has_room-clause-value
unfolding broken_line
returns-then-not-has_room-clause-value c =
    rw c.if-not-broken.false (unwritten c.args.out.now broken_line 7 refl c.if-not-has_room.ensures)

pub returns-clause-value : goal.returns-clause-value
unfolding broken_line
returns-clause-value c =
    rw c.if-not-broken.false (written c.args.out.now broken_line _ 7 refl c.if-not-has_room.ensures c.put_text.ensures)
