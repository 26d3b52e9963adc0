use mathlib.Core.Path.{refl}
use Rattle.std.proofs.Common.{Err}
use Rattle.host_next.proofs.Calls.{refused}
use Rattle.host_registry.proofs.registry_calls.registry_ingest.Goals as goal

pub returns-in-Err : goal.returns-in-Err
returns-in-Err c = refused _ c.args.next.now (Err c.in-Err.refusal) _ _ c.in-Err.ensures refl c.report_answer.ensures
