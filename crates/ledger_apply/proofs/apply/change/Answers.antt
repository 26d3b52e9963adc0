use mathlib.Core.Path.{refl, sym, ◌∙◌}
use mathlib.Core.Bool.{true, false}
use borrow.Author.Tests.{not-true, not-false}
use Rattle.std.proofs.Common.{Ok, Err}
use Rattle.ledger_stores.proofs.Reached.{reached}
use Rattle.ledger_apply.proofs.apply.change.Goals as goal

pub returns-then-not-sound : goal.returns-then-not-sound
returns-then-not-sound c =
    let a = c.args in
    let all =
    reached a.registries.now a.registry_count a.rows.now a.row_count a.attempt.now false
    (sym (not-true _ c.if-not-sound.true-raw) ∙ c.sound.ensures)
    _ refl _ refl in
    record { answer = all.answer; ledger = all.ledger; stored = all.stored }

pub returns-in-Err : goal.returns-in-Err
returns-in-Err c =
    let a = c.args in
    let all =
    reached a.registries.now a.registry_count a.rows.now a.row_count a.attempt.now true
    (sym (not-false _ c.if-not-sound.false-raw) ∙ c.sound.ensures)
    (Err c.in-Err.refusal) c.in-Err.ensures _ refl in
    rw (c.behind_reading.ensures) (record { answer = all.answer; ledger = all.ledger; stored = all.stored })

pub returns-in-Ok : goal.returns-in-Ok
returns-in-Ok c =
    let a = c.args in
    let made = rw (c.registry_found-registry.ensures, c.row_found-row.ensures) at c.next.ensures in
    let all =
    reached a.registries.now a.registry_count a.rows.now a.row_count a.attempt.now true
    (sym (not-false _ c.if-not-sound.false-raw) ∙ c.sound.ensures)
    (Ok c.in-Ok.asked) c.in-Ok.ensures c.next.result made in
    record { answer = all.answer; ledger = all.ledger; stored = all.stored }
