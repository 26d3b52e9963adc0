use borrow.Author.Rules.{rules}
use mathlib.Core.Path.{◌≡◌, sym, ◌∙◌}
use native.Mathlib.Omega.{arith}
use borrow.Author.Tests.{lt-ltb, le-ltb}
use Prim.Native.Nat.{◌<◌, ◌≤◌}
use lib.ListN.{length}
use Rattle.cesr.proofs.Views.{length-mapped}
use Rattle.events.specs.Members.{view}
use Rattle.events.proofs.MemberLaws.{view-size, view-push, pushed_room, pushed-full}
use Rattle.events.proofs.Members.push.Goals as goal

pub returns-then-n-lt16 : goal.returns-then-n-lt16
returns-then-n-lt16 c =
    let m = c.args.self.now in
    let full : length m.items ≡ 16 = search length-mapped in
    let b : length (view m) < 16 = omega (arith, view-size m full) in
    record { ok = sym (lt-ltb (length (view m)) 16 b); list = view-push m full c.args.p c.if-n-lt16.true ∙ sym (pushed_room (view m) c.args.p b); kept = search rules; count = search rules }

pub returns : goal.returns
returns c =
    let m = c.args.self.now in
    let full : length m.items ≡ 16 = search length-mapped in
    let b : 16 ≤ length (view m) = omega (arith, view-size m full) in
    record { ok = sym (le-ltb (length (view m)) 16 b); list = sym (pushed-full (view m) c.args.p b); kept = search rules; count = search rules }
