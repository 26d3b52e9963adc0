use Rattle.std.proofs.Common.{◌≡◌, ◌∙◌, sym, refl, [], min, length, arith, rules}
use Rattle.std.specs.Option.{unwrap_or}
use Rattle.attempts.specs.Answering.{answering}
use Rattle.std.proofs.lemmas.Option.{IfSome_then}
use Rattle.std.proofs.lemmas.Result.{on_ok_weaker}
use Rattle.ledger_image.specs.Images.{ledger_of}
use Rattle.ledger_table.specs.Tables.{view_ledger}
use Rattle.attempts.proofs.LineLaws.{took-less, last-counted}
use Rattle.attempts.proofs.Turns.{starts, goes-on, ends}
use Rattle.attempts.proofs.answer_all.Goals as goal

pub loop-buffer-init : goal.loop-buffer-init
loop-buffer-init g c =
    record {
      room = refl;
      going = rw c.empty-ledger.ensures (IfSome_then _ c.in_ok-run.ensures (λ s t. starts answering s _ _ _ (ledger_of [] []) t.0 t.1));
    }

pub loop-buffer-smaller : goal.loop-buffer-smaller
loop-buffer-smaller g c =
    rw c.took-run.ensures (took-less _ _ _ (sym c.wants.ensures ∙ c.loop-buffer-test.true))

pub loop-buffer-preserved : goal.loop-buffer-preserved
loop-buffer-preserved g c =
    let room = c.loop-buffer.invariant.room in
    let all : min c.unwrap_or.result (length c.loop-buffer.buffer) ≡ unwrap_or c.in_ok-length.length 0 =
    omega (arith, c.unwrap_or.ensures, c.in_ok-length.ensures.upper_bound) in
    record {
      room = search rules;
      going = IfSome_then _ c.loop-buffer.invariant.going (λ s t. goes-on answering _ _ _ _ _ _ _ _ _ _ _ c.in_ok-attempt.attempt.now c.in_ok-length.length t (sym c.wants.ensures ∙ c.loop-buffer-test.true) c.in_ok-length.ensures.value (rw all at c.in_ok-attempt.ensures.front) c.took-run.ensures c.in_ok-ledger.ensures.ledger c.in_ok-ledger.ensures.line);
    }

pub returns : goal.returns
returns g c =
    let l = c.loop-buffer.ledger in
    on_ok_weaker c.print_last.result
    (λ p. IfSome_then _ c.loop-buffer.invariant.going (λ s t. ends answering _ _ _ _ _ _ (view_ledger l) _ _ t (sym c.wants.ensures ∙ c.loop-buffer-test.false) c.in_ok-read_more.ensures (rw (c.finish-end.ensures, last-counted l) at p)))
    c.print_last.ensures
