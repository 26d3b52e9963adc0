use Rattle.registry_answer.proofs.AnswerLaws.{handed-on}
use Rattle.registry.proofs.RotationLaws.{rotation-accepted, rotation-refused}
use Rattle.registry.proofs.rotation.rotation.Goals as goal

pub returns-in_err-ingest_answer : goal.returns-in_err-ingest_answer
returns-in_err-ingest_answer g c =
    rw (handed-on _ _ c.from_residual.ensures.1) (rotation-refused _ _ _ c.in-Some.ensures.view _ c.in_err-ingest_answer.ensures)

pub returns : goal.returns
returns g c = rotation-accepted _ _ _ c.in-Some.ensures.view c.in_ok-ingest_answer.ensures
