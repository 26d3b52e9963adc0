use Rattle.std.proofs.Common.{◌∙◌, sym, arith}
use borrow.Author.Count.{below_more}
use Rattle.events.proofs.MemberLaws.{walk-tail, walked, check-found, all_sound}
use Rattle.events_member_set.proofs.member_set.check.Goals as goal

pub returns-then-found-is_missing : goal.returns-then-found-is_missing
returns-then-found-is_missing g c =
    let f = c.loop-at in
    let here = walked c.args.rule (g.L.Prefixes.list c.args.list) (g.O.Prefixes.list c.args.other) _ f.at _ _ _ (omega arith) f.invariant.rest c.split-next.ensures.head c.is_found-found.ensures c.is_missing.ensures in
    sym (check-found _ _ _ f.at (omega arith) f.invariant.sound (here ∙ c.if-found-is_missing.true))

pub loop-at-preserved : goal.loop-at-preserved
loop-at-preserved g c =
    let f = c.loop-at in
    let here = walked c.args.rule (g.L.Prefixes.list c.args.list) (g.O.Prefixes.list c.args.other) _ f.at _ _ _ (omega arith) f.invariant.rest c.split-next.ensures.head c.is_found-found.ensures c.is_missing.ensures in
    record {
      rest = walk-tail _ _ _ f.at f.invariant.rest c.split-next.ensures.tail;
      sound = below_more _ _ f.invariant.sound (here ∙ c.if-found-is_missing.false);
    }

pub returns : goal.returns
returns g c = sym (all_sound _ _ _ (λ k h. c.loop-at.invariant.sound k (omega arith)))
