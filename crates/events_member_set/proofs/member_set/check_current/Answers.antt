use Rattle.std.proofs.Common.{◌≡◌, ◌∙◌, ap, Err}
use Rattle.std.proofs.lemmas.Result.{err_from_is_err_and}
use Rattle.events.specs.Members.{check_current}
use Rattle.events.proofs.MemberLaws.{current-offends}
use Rattle.events_member_set.proofs.member_set.check_current.Goals as goal

pub returns-in_err-check : goal.returns-in_err-check
unfolding check_current
returns-in_err-check g c =
    let current = g.C.Prefixes.list c.args.current in
    let cuts = g.L.Prefixes.list c.args.cuts in
    let additions = g.L.Prefixes.list c.args.additions in
    let w = err_from_is_err_and _ c.from_residual.ensures.1 in
    let e : c.from_residual.result ≡ check_current current cuts additions = rw (← c.check.ensures, c.in_err-check.was) (w.1 ∙ ap Err w.2) in
    record { answer = e; offends = rw e (current-offends current cuts additions) }

pub returns : goal.returns
unfolding check_current
returns g c =
    let current = g.C.Prefixes.list c.args.current in
    let cuts = g.L.Prefixes.list c.args.cuts in
    let additions = g.L.Prefixes.list c.args.additions in
    let e : c.check-2.result ≡ check_current current cuts additions = rw (← c.check.ensures, c.in_ok-check.was) c.check-2.ensures in
    record { answer = e; offends = rw e (current-offends current cuts additions) }
