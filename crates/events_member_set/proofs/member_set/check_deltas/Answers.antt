use Rattle.std.proofs.Common.{◌≡◌, ◌∙◌, ap, refl, [], Err}
use Rattle.std.proofs.lemmas.Result.{err_from_is_err_and}
use Rattle.events.specs.declared.Rule.TheVariants.{DuplicateCut, DuplicateAddition}
use Rattle.events.specs.Members.{check_deltas}
use Rattle.events.proofs.MemberLaws.{repeat-alone, deltas-offends}
use Rattle.events_member_set.proofs.member_set.check_deltas.Goals as goal

pub returns-in_err-check : goal.returns-in_err-check
unfolding check_deltas
returns-in_err-check g c =
    let cuts = g.L.Prefixes.list c.args.cuts in
    let additions = g.L.Prefixes.list c.args.additions in
    let cut = c.check.ensures ∙ repeat-alone DuplicateCut cuts cuts [] refl in
    let w = err_from_is_err_and _ c.from_residual.ensures.1 in
    let e : c.from_residual.result ≡ check_deltas cuts additions = rw (← cut, c.in_err-check.was) (w.1 ∙ ap Err w.2) in
    record { answer = e; offends = rw e (deltas-offends cuts additions) }

pub returns-in_err-check-2 : goal.returns-in_err-check-2
unfolding check_deltas
returns-in_err-check-2 g c =
    let cuts = g.L.Prefixes.list c.args.cuts in
    let additions = g.L.Prefixes.list c.args.additions in
    let cut = c.check.ensures ∙ repeat-alone DuplicateCut cuts cuts [] refl in
    let addition = c.check-2.ensures ∙ repeat-alone DuplicateAddition additions additions [] refl in
    let w = err_from_is_err_and _ c.from_residual-in_err-check-2.ensures.1 in
    let e : c.from_residual-in_err-check-2.result ≡ check_deltas cuts additions = rw (← cut, c.in_ok-check.was, ← addition, c.in_err-check-2.was) (w.1 ∙ ap Err w.2) in
    record { answer = e; offends = rw e (deltas-offends cuts additions) }

pub returns : goal.returns
unfolding check_deltas
returns g c =
    let cuts = g.L.Prefixes.list c.args.cuts in
    let additions = g.L.Prefixes.list c.args.additions in
    let cut = c.check.ensures ∙ repeat-alone DuplicateCut cuts cuts [] refl in
    let addition = c.check-2.ensures ∙ repeat-alone DuplicateAddition additions additions [] refl in
    let e : c.check-3.result ≡ check_deltas cuts additions = rw (← cut, c.in_ok-check.was, ← addition, c.in_ok-check-2.was) c.check-3.ensures in
    record { answer = e; offends = rw e (deltas-offends cuts additions) }
