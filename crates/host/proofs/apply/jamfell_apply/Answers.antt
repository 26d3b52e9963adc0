use mathlib.Core.Path.{◌≡◌, ap, ◌∙◌}
use Rattle.registry_answer.specs.Answers.{accepts}
use Rattle.registry_error.specs.Errors.{Answer}
use Rattle.registry_error.specs.Errors.{answer_number}
use Rattle.host_report.specs.Reports.{answer_report}
use Rattle.ledger_step.specs.Steps.{step_of}
use Rattle.ledger_table.specs.Tables.{view_ledger}
use Rattle.ledger_laws.proofs.ApplyLedger.{applied-answer, applied-view, applied-kept}
use Rattle.host.proofs.apply.jamfell_apply.Goals as goal

pub returns : goal.returns
unfolding view_ledger
returns c =
    let l = c.args.ledger.now in
    let s = c.args.attempt.now in
    let done = c.apply-applied in
    let answered : done.result.answer ≡ (step_of (view_ledger l) s).answer = applied-answer l s done.result done.ensures.answer in
    record
    { number = c.report_answer.ensures.0 ∙ ap (λ (a : Answer). answer_number a) answered; report = c.report_answer.ensures.1 ∙ ap (λ (a : Answer). answer_report a) answered; ledger = applied-view l s done.result done.new.registries done.new.rows done.ensures.ledger; kept = λ h. applied-kept l s done.result done.new.registries done.new.rows done.ensures.answer done.ensures.stored (ap (λ (a : Answer). accepts a) answered ∙ h); stored = done.ensures.stored }
