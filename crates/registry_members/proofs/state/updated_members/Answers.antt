use Rattle.std.proofs.Common.{◌≡◌, ◌∙◌, ap, sym, arith, rules, is_ok, length, take, ◌++◌, ◌∷◌, []}
use Rattle.std.proofs.lemmas.Result.{err_from_is_err_and}
use lib.Seq.{take_all}
use mathlib.Core.List.{append-nil, append_assoc}
use borrow.Author.Tests.{le-leb}
use Rattle.laws.proofs.Views.{take_step}
use Rattle.events.specs.Members.{view, at, no_prefix}
use Rattle.events.proofs.MemberLaws.{push-done, push_full, view-counted, walk-head, walk-tail}
use Rattle.registry_members.specs.Updated.{survivors, updated_members}
use Rattle.registry_members.proofs.Survivors.{survivors-step, no_room-survivor, no_room-addition}
use Rattle.registry_members.proofs.state.updated_members.Goals as goal

pub loop-p-init : goal.loop-p-init
unfolding survivors
loop-p-init g c = record { list = c.empty-members.ensures.0; count = omega arith }

pub loop-p-preserved-then-has : goal.loop-p-preserved-then-has
loop-p-preserved-then-has g c =
    let l = c.args.current.now in
    let cuts = g.L.Prefixes.list c.args.cuts in
    let f = c.loop-p in
    record {
      list = f.invariant.list ∙ sym (survivors-step cuts l f.p-index c.loop-p-test.true ∙ rw (← c.has.ensures, c.if-has.true));
      count = f.invariant.count;
    }

pub returns-in_err-push-clause-ok : goal.returns-in_err-push-clause-ok
returns-in_err-push-clause-ok g c =
    let l = c.args.current.now in
    let cuts = g.L.Prefixes.list c.args.cuts in
    let additions = g.L.Prefixes.list c.args.additions in
    let f = c.loop-p in
    let w = err_from_is_err_and _ c.from_residual.ensures.1 in
    ap is_ok w.1 ∙ sym (no_room-survivor l cuts additions f.p-index c.loop-p-test.true (sym c.has.ensures ∙ c.if-has.false) (rw f.invariant.list at (push_full _ c.in_err-push.ensures.ok)))

pub loop-p-preserved : goal.loop-p-preserved
loop-p-preserved g c =
    let l = c.args.current.now in
    let cuts = g.L.Prefixes.list c.args.cuts in
    let f = c.loop-p in
    record {
      list = push-done _ _ _ c.in_ok-push.ensures.ok c.push.ensures.list ∙ rw f.invariant.list (sym (survivors-step cuts l f.p-index c.loop-p-test.true ∙ rw (← c.has.ensures, c.if-has.false)));
      count = c.push.ensures.count f.invariant.count;
    }

pub loop-init : goal.loop-init
loop-init g c =
    let f = c.loop-p in
    let cuts = g.L.Prefixes.list c.args.cuts in
    record {
      rest = search rules;
      list = f.invariant.list ∙ ap (survivors cuts) (take_all f.p-index c.args.current.now (omega arith)) ∙ sym (append-nil _);
      count = f.invariant.count;
    }

pub returns-in_err-push-2-clause-ok : goal.returns-in_err-push-2-clause-ok
returns-in_err-push-2-clause-ok g c =
    let l = c.args.current.now in
    let cuts = g.L.Prefixes.list c.args.cuts in
    let additions = g.L.Prefixes.list c.args.additions in
    let f = c.loop in
    let w = err_from_is_err_and _ c.from_residual-in_err-push-2.ensures.1 in
    ap is_ok w.1 ∙ sym (no_room-addition l cuts additions f.counter (omega arith) (rw f.invariant.list at (push_full _ c.in_err-push-2.ensures.ok)))

pub loop-preserved : goal.loop-preserved
loop-preserved g c =
    let l = c.args.current.now in
    let cuts = g.L.Prefixes.list c.args.cuts in
    let additions = g.L.Prefixes.list c.args.additions in
    let f = c.loop in
    let x = walk-head additions _ f.counter _ (omega arith) f.invariant.rest c.split-next.ensures.head in
    record {
      rest = walk-tail additions _ _ f.counter f.invariant.rest c.split-next.ensures.tail;
      list = push-done _ _ _ c.in_ok-push-2.ensures.ok c.push-in-loop.ensures.list ∙ rw (f.invariant.list, x, take_step additions f.counter no_prefix (omega arith)) (append_assoc (survivors cuts l) (take f.counter additions) (at additions f.counter ∷ []));
      count = c.push-in-loop.ensures.count f.invariant.count;
    }

pub returns : goal.returns
unfolding updated_members
returns g c =
    let l = c.args.current.now in
    let cuts = g.L.Prefixes.list c.args.cuts in
    let additions = g.L.Prefixes.list c.args.additions in
    let f = c.loop in
    let e : view f.members ≡ survivors cuts l ++ additions = f.invariant.list ∙ ap (λ k. survivors cuts l ++ k) (take_all f.counter additions (omega arith)) in
    record {
      ok = sym (le-leb (length (survivors cuts l ++ additions)) 16 (omega (arith, ap length e, view-counted f.members)));
      list = e;
      count = f.invariant.count;
    }
