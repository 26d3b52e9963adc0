use Rattle.std.proofs.Common.{◌≡◌, ◌∙◌, ◌<◌, sym, length, arith}
use Rattle.ledger_registries_check.proofs.Sound.{unsound, repeated, passed, at-start, at-good, at-bad, at-end, wrong_slots, too_many}
use Rattle.ledger_registries_check.proofs.check.registries_sound.Goals as goal
use Rattle.ledger_registries_check.proofs.check.registries_sound.Goals.{then-registries-ne16-via-then-registries-ne16, then-registries-ne16-via-else-registries-ne16+then-count-gt16}
use Rattle.ledger_registries_check.proofs.check.registries_sound.Goals.{then-not-registry_sound-via-then-not-registry_sound, then-not-registry_sound-via-else-not-registry_sound+then-find_registry-i}

pub returns-then-registries-ne16 : goal.returns-then-registries-ne16
returns-then-registries-ne16 c =
    let a = c.args in
    elim c.then-registries-ne16.branch [
      | then-registries-ne16-via-then-registries-ne16 w ↦ wrong_slots a.registries.now a.count w.if-registries-ne16.true
      | then-registries-ne16-via-else-registries-ne16+then-count-gt16 w ↦ too_many a.registries.now a.count w.if-count-gt16.true
    ]

pub loop-i-init : goal.loop-i-init
loop-i-init c = at-start c.args.registries.now

pub returns-then-not-registry_sound : goal.returns-then-not-registry_sound
returns-then-not-registry_sound c =
    let a = c.args in
    let gs = a.registries.now in
    let i = c.loop-i.i in
    let bad = at-bad gs a.count i c.if-registries-ne16.false c.if-count-gt16.false c.loop-i-test.true in
    elim c.then-not-registry_sound.branch [
      | then-not-registry_sound-via-then-not-registry_sound w ↦ bad (unsound gs i (sym c.registry_sound.ensures ∙ w.if-not-registry_sound.true))
      | then-not-registry_sound-via-else-not-registry_sound+then-find_registry-i w ↦ bad (repeated gs i (rw (← w.find_registry.ensures) w.if-find_registry-i.true))
    ]

pub loop-i-preserved : goal.loop-i-preserved
loop-i-preserved c =
    let gs = c.args.registries.now in
    let i = c.loop-i.i in
    let there : i < length gs = omega arith in
    at-good gs i there c.loop-i.invariant (passed gs i (sym c.registry_sound.ensures ∙ c.if-not-registry_sound.false) (rw (← c.find_registry.ensures) c.if-find_registry-i.false))

pub returns : goal.returns
returns c =
    let a = c.args in
    let all : c.loop-i.i ≡ a.count = omega arith in
    at-end a.registries.now a.count c.if-registries-ne16.false c.if-count-gt16.false (rw (← all) c.loop-i.invariant)
