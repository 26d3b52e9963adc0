use Rattle.std.proofs.Common.{◌≡◌, ◌∙◌, ◌≤◌, sym, arith, add-one}
use Rattle.ledger_rows_check.proofs.Sound.{Turn, unsound, repeated, passed, at-start, at-good, at-bad, at-end, wrong_slots, too_many}
use Rattle.ledger_rows_check.proofs.check.rows_sound.Goals as goal
use Rattle.ledger_rows_check.proofs.check.rows_sound.Goals.{then-rows-ne256-via-then-rows-ne256, then-rows-ne256-via-else-rows-ne256+then-count-gt256}
use Rattle.ledger_rows_check.proofs.check.rows_sound.Goals.{then-not-row_sound-via-then-not-row_sound, then-not-row_sound-via-else-not-row_sound+then-found-searched}

pub returns-then-rows-ne256 : goal.returns-then-rows-ne256
returns-then-rows-ne256 c =
    let a = c.args in
    elim c.then-rows-ne256.branch [
      | then-rows-ne256-via-then-rows-ne256 w ↦ wrong_slots a.rows.now a.count w.if-rows-ne256.true
      | then-rows-ne256-via-else-rows-ne256+then-count-gt256 w ↦ too_many a.rows.now a.count w.if-count-gt256.true
    ]

pub loop-i-init : goal.loop-i-init
loop-i-init c = record { marked = c.none-marks.ensures; kept = at-start c.args.rows.now }

pub returns-then-not-row_sound : goal.returns-then-not-row_sound
returns-then-not-row_sound c =
    let a = c.args in
    let i = c.loop-i.i in
    let few : a.count ≤ 256 = c.if-count-gt256.false in
    let bad = at-bad a.rows.now a.count i c.if-rows-ne256.false few c.loop-i-test.true in
    let turn : Turn a.rows.now i _ _ _ = record { before = omega arith; marked = c.loop-i.invariant.marked; left = c.mark-searched.ensures.searched; ended = c.find_at-found.ensures } in
    elim c.then-not-row_sound.branch [
      | then-not-row_sound-via-then-not-row_sound w ↦ bad (unsound a.rows.now i (sym c.row_sound.ensures ∙ w.if-not-row_sound.true))
      | then-not-row_sound-via-else-not-row_sound+then-found-searched w ↦ bad (repeated a.rows.now i _ _ _ turn w.if-found-searched.true)
    ]

pub loop-i-preserved : goal.loop-i-preserved
loop-i-preserved c =
    let rows = c.args.rows.now in
    let i = c.loop-i.i in
    let known = c.loop-i.invariant in
    let turn : Turn rows i _ _ _ = record { before = omega arith; marked = known.marked; left = c.mark-searched.ensures.searched; ended = c.find_at-found.ensures } in
    let good = passed rows i _ _ _ turn (sym c.row_sound.ensures ∙ c.if-not-row_sound.false) c.if-found-searched.false in
    record { marked = c.mark-searched.ensures.marked ∙ rw (add-one, ← known.marked); kept = at-good rows i (omega arith) known.kept good }

pub returns : goal.returns
returns c =
    let a = c.args in
    let all : c.loop-i.i ≡ a.count = omega arith in
    at-end a.rows.now a.count c.if-rows-ne256.false c.if-count-gt256.false (rw (← all) c.loop-i.invariant.kept)
