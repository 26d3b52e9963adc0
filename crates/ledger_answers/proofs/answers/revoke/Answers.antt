use mathlib.Core.Path.{◌≡◌, ap, ◌∙◌}
use Rattle.std.proofs.Common.{Err}
use Rattle.std.proofs.lemmas.Result.{err_from_is_err_and}
use Rattle.ledger_answers.proofs.Behind.{revocation-refused, revocation-made}
use Rattle.ledger_answers.proofs.answers.revoke.Goals as goal

pub returns-in_err-state : goal.returns-in_err-state
returns-in_err-state c k =
    let z = c.args in
    let o = c.ingest in
    let w = err_from_is_err_and _ c.from_residual-in_err-state.ensures.1 in
    let e : c.from_residual-in_err-state.result ≡ Err c.in_err-state.field-0.0 = w.1 ∙ ap Err w.2 in
    rw e (revocation-refused z.s.now z.registry z.row c.in_ok-g.g c.in_ok-g.ensures o.result k c.in_ok-w.w c.in_ok-w.ensures o.ensures _ c.in_err-state.was)

pub returns : goal.returns
returns c k =
    let z = c.args in
    let o = c.ingest in
    revocation-made z.s.now z.registry z.row c.in_ok-g.g c.in_ok-g.ensures o.result k c.in_ok-w.w c.in_ok-w.ensures o.ensures _ c.in_ok-state.was
