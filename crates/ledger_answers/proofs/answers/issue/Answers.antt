use mathlib.Core.Path.{◌≡◌, ap, ◌∙◌}
use Rattle.std.proofs.Common.{Err}
use Rattle.std.proofs.lemmas.Result.{err_from_is_err_and}
use Rattle.ledger_answers.proofs.Behind.{issue-refused, issue-full, issue-made}
use Rattle.ledger_answers.proofs.answers.issue.Goals as goal

pub returns-in_err-state : goal.returns-in_err-state
returns-in_err-state c =
    let z = c.args in
    let o = c.incept in
    let w = err_from_is_err_and _ c.from_residual-in_err-state.ensures.1 in
    let e : c.from_residual-in_err-state.result ≡ Err c.in_err-state.field-0.0 = w.1 ∙ ap Err w.2 in
    rw e (issue-refused z.s.now z.registry z.row c.in_ok-issuing.issuing c.in_ok-issuing.ensures o.result c.in_ok-absent.ensures o.ensures _ c.in_err-state.was)

pub returns-then-rows-ge-ROWS : goal.returns-then-rows-ge-ROWS
returns-then-rows-ge-ROWS c =
    let z = c.args in
    let o = c.incept in
    issue-full z.s.now z.registry z.row c.in_ok-issuing.issuing c.in_ok-issuing.ensures o.result c.in_ok-absent.ensures o.ensures _ c.in_ok-state.was c.if-rows-ge-ROWS.true

pub returns : goal.returns
returns c =
    let z = c.args in
    let o = c.incept in
    issue-made z.s.now z.registry z.row c.in_ok-issuing.issuing c.in_ok-issuing.ensures o.result c.in_ok-absent.ensures o.ensures _ c.in_ok-state.was c.if-rows-ge-ROWS.false
