use mathlib.Core.Path.{refl}
use Rattle.registry_answer.proofs.AnswerLaws.{handed-on}
use Rattle.registry_lent.proofs.Kept.{kept}
use Rattle.registry_lent.proofs.credential_state.ingest_mut.Goals as goal

pub returns-in_err-next : goal.returns-in_err-next
returns-in_err-next c = rw (handed-on _ _ c.from_residual.ensures.1, ← c.in_err-next.ensures) (refl, refl)

pub returns : goal.returns
returns c =
    let stays = rw (← c.in_ok-next.ensures) at (kept c.args.g c.args.w.now c.args.s.now) in
    rw (← c.in_ok-next.ensures) (refl, stays)
