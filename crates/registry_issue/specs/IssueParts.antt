-- The answer to a credential's issue but for the registry's own backers, whose list the code leaves to its callers.
use Rattle.cesr.specs.declared.Said.{Said}
use Rattle.events_tel.specs.TelEvents.{Event}
use Rattle.events_seal.specs.declared.Seal.{Seal}
use Rattle.registry_management.specs.States.{Registry}
use Rattle.registry_backer.specs.Attempts.{Message}
use Rattle.registry_error.specs.Errors.{Answer}
use Rattle.registry_backer.specs.Backers.{resolved_backer}
use Rattle.registry_issue.specs.IssueFolds.{iss_answer, bis_checks, each_inception}

-- a bis after 8
unfoldable pub bis_resolved : Registry → Said → Said → Said → Seal → Message → Answer
bis_resolved g said credential registry seal m = bis_checks g said credential registry m (resolved_backer g seal m.evidence m.signatures)

-- an iss asks about no backers
abbrev pub event_resolved : Registry → Event → Message → Answer
event_resolved g e m =
    each_inception (λ said credential registry. iss_answer g said credential registry m) (λ said credential registry seal. bis_resolved g said credential registry seal m) e
