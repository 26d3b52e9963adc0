use Rattle.std.proofs.Common.{arith, ◌≡◌, length, rules, sym, refl}
use Rattle.events_tel.proofs.ConfigLaws.{room-below, room-full, view-push, view-full}
use Rattle.events_tel.proofs.Configs.push.Goals as goal

pub returns-then-n-lt8 : goal.returns-then-n-lt8
returns-then-n-lt8 c =
    let m = c.args.self.now in
    let full : length m.codes ≡ 8 = search rules in
    record { ok = sym (room-below m full (omega arith)); list = view-push m full c.args.code (omega arith); kept = tt }

pub returns : goal.returns
returns c =
    let m = c.args.self.now in
    let full : length m.codes ≡ 8 = search rules in
    record { ok = sym (room-full m full (omega arith)); list = view-full m full c.args.code (omega arith); kept = refl }
