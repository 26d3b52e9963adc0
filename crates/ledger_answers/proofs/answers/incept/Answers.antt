use mathlib.Core.Path.{◌≡◌, ap, ◌∙◌}
use Rattle.std.proofs.Common.{Err}
use Rattle.std.proofs.lemmas.Result.{err_from_is_err_and}
use Rattle.ledger_answers.proofs.Behind.{inception-refused, inception-full, inception-made}
use Rattle.ledger_answers.proofs.answers.incept.Goals as goal

pub returns-in_err-state : goal.returns-in_err-state
returns-in_err-state c row =
    let z = c.args in
    let o = c.incept_with_evidence in
    let w = err_from_is_err_and _ c.from_residual-in_err-state.ensures.1 in
    let e : c.from_residual-in_err-state.result ≡ Err c.in_err-state.field-0.0 = w.1 ∙ ap Err w.2 in
    rw e (inception-refused z.s.now z.registry row o.result c.in_ok-absent.ensures o.ensures.outcome _ c.in_err-state.was)

pub returns-then-registries-ge-REGISTRIES : goal.returns-then-registries-ge-REGISTRIES
returns-then-registries-ge-REGISTRIES c row =
    let z = c.args in
    let o = c.incept_with_evidence in
    inception-full z.s.now z.registry row o.result c.in_ok-absent.ensures o.ensures.outcome _ c.in_ok-state.was c.if-registries-ge-REGISTRIES.true

pub returns : goal.returns
returns c row =
    let z = c.args in
    let o = c.incept_with_evidence in
    inception-made z.s.now z.registry row o.result c.in_ok-absent.ensures o.ensures.outcome o.ensures.within _ c.in_ok-state.was c.if-registries-ge-REGISTRIES.false
