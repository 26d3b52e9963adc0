use Rattle.std.proofs.Common.{ap, ◌∙◌}
use Rattle.laws.specs.Room.{put}
use Rattle.ledger_text.specs.Lines.{size_in}
use Rattle.ledger_text.proofs.LineLaws.{line-fits}
use Rattle.attempts.proofs.LineLaws.{line-is}
use Rattle.attempts.proofs.line.answer_attempt.Goals as goal

pub returns : goal.returns
returns c =
    let e = line-is _ _ _ _ _ _ c.number.ensures c.letter.ensures c.apply-answer.ensures.answer in
    let written = c.write_line-size.ensures in
    record {
      line = written.value.1 ∙ ap (put _ 0) e;
      size = written.value.0 ∙ ap (size_in _) e;
      ledger = c.apply-answer.ensures.ledger;
      within = written.upper_bound;
      short = rw (← e) (line-fits c.args.position c.number.result c.letter.result c.ranges.position.fits c.number.type_inv);
    }
