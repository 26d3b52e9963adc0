use Rattle.ledger_laws.proofs.ApplyLedger.{applied-answer, applied-view, applied-kept}
use Rattle.ledger.proofs.ledger.apply.Goals as goal

pub returns : goal.returns
returns c =
    let done = c.apply-applied in
    let held = c.args.ledger.now in
    let s = c.args.attempt.now in
    record
    { answer = applied-answer held s done.result done.ensures.answer; ledger = applied-view held s done.result done.new.registries done.new.rows done.ensures.ledger; kept = applied-kept held s done.result done.new.registries done.new.rows done.ensures.answer done.ensures.stored }
