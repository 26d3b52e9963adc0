-- The rotations of a registry (docs/RULES.md, "Orders", "Next states").
use Rattle.std.specs.Prelude.{ℕ, List, [], ◌∷◌, not, cond, leb, length}
use Rattle.cesr.specs.Primitives.{said_at, eq_said}
use Rattle.cesr_sn.specs.declared.Sn.{Sn}
use Rattle.cesr.specs.declared.Said.{Said}
use Rattle.cesr.specs.declared.BasicPrefix.{BasicPrefix}
use Rattle.events.specs.Members.{check_deltas, check_current}
use Rattle.events_tel.specs.TelEvents.{Event, members_in}
use Rattle.events_tel.specs.TelEvents.Event.{vcp, vrt, iss, rev, bis, brv}
use Rattle.registry_state.specs.States.{Registry, view_registry, well_registry}
use Rattle.registry_state.specs.declared.RegistryState.{RegistryState}
use Rattle.registry_backer.specs.Attempts.{Message, Decoded, decode_of}
use Rattle.registry_signatures.specs.declared.Signature.{Signature}
use Rattle.registry_backer.specs.Attempts.Decoded.{malformed, decoded}
use Rattle.registry_error.specs.declared.RegistryRejection.{RegistryRejection}
use Rattle.registry_error.specs.declared.RegistryRejection.TheVariants.{Malformed, DuplicateInception, NotManagementRotation, InconsistentRegistry, RotationOnBackerlessRegistry, PriorDigestMismatch, TooManyBackers}
use Rattle.registry_error.specs.Errors.{Answer}
use Rattle.std.specs.Prelude.{Result, Ok, Err}
use Rattle.registry_answer.specs.Answers.{accepts, accept_if, backer_set, first_of}
use Rattle.registry_verification.specs.Sequence.{next_sn}
use Rattle.registry_members.specs.Updated.{updated_members}
use Rattle.registry_authentication.specs.Issuers.{authenticate_issuer}
use Rattle.registry_backing.specs.Backings.{enough_receipts}
use Rattle.registry_backer.specs.Backers.{is_backerless}
use Rattle.registry_inception.specs.InceptionFolds.{Outcome, threshold_fits}
use Rattle.registry.specs.declared.RotationRead.{RotationRead}

-- 24 to 27 of a vrt: the rules on its lists, then the limit, the toad and the receipts of the members after it
unfoldable pub vrt_backers : List BasicPrefix → ℕ → List BasicPrefix → List BasicPrefix → List Signature → Answer
vrt_backers current toad cuts additions l =
    first_of
    (backer_set (check_deltas cuts additions)
    ∷ backer_set (check_current current cuts additions)
    ∷ accept_if (leb (length (updated_members current cuts additions)) 16) TooManyBackers
    ∷ threshold_fits toad (length (updated_members current cuts additions))
    ∷ enough_receipts toad (length (updated_members current cuts additions)) l
    ∷ [])

-- a vrt after 7: 10, 14 to 21, 24 to 27
unfoldable pub vrt_answer : Registry → Said → Said → Said → Sn → ℕ → List BasicPrefix → List BasicPrefix → Message → Answer
vrt_answer g said registry prior sn toad cuts additions m =
    first_of
    (accept_if (eq_said registry g.id) InconsistentRegistry
    ∷ accept_if (not (is_backerless g)) RotationOnBackerlessRegistry
    ∷ next_sn g.sn sn
    ∷ accept_if (eq_said prior g.latest) PriorDigestMismatch
    ∷ authenticate_issuer g.issuer registry sn said m
    ∷ vrt_backers g.backers toad cuts additions m.signatures
    ∷ [])

-- 3: a vcp; 7: any other kind
abbrev pub ingest_event : Registry → Event → Message → Answer
ingest_event g (vcp said issuer toad configs backers) m = Err DuplicateInception
ingest_event g (vrt said registry prior sn toad cuts additions) m = vrt_answer g said registry prior sn toad cuts additions m
ingest_event g (iss said credential registry) m = Err NotManagementRotation
ingest_event g (rev said credential registry prior) m = Err NotManagementRotation
ingest_event g (bis said credential registry seal) m = Err NotManagementRotation
ingest_event g (brv said credential prior seal) m = Err NotManagementRotation

-- the state that a rotation leaves: id, issuer and config stay
abbrev pub rotated : Registry → Event → Registry
rotated g (vcp said issuer toad configs backers) = g
rotated g (vrt said registry prior sn toad cuts additions) =
    record
    { id = g.id; issuer = g.issuer; sn = sn; latest = said; toad = toad; configs = g.configs; backers = updated_members g.backers cuts additions }
rotated g (iss said credential registry) = g
rotated g (rev said credential registry prior) = g
rotated g (bis said credential registry seal) = g
rotated g (brv said credential prior seal) = g

unfoldable pub ingest_message : Registry → Message → Outcome
ingest_message g m =
    record { answer = ingest_event g m.event m; state = cond (accepts (ingest_event g m.event m)) (rotated g m.event) g }

abbrev pub ingest_decoded : Registry → Decoded → Outcome
ingest_decoded g malformed = record { answer = Err Malformed; state = g }
ingest_decoded g (decoded m) = ingest_message g m

-- 1 before everything, of the state that is handed in too
unfoldable pub ingest_of : RegistryState → List ℕ → Outcome
ingest_of g s = cond (well_registry g) (ingest_decoded (view_registry g) (decode_of s)) (record { answer = Err Malformed; state = view_registry g })

-- the state that a rotation leaves of a registry, by the places of what it changes
unfoldable pub rotated_at : Registry → List ℕ → RotationRead → Registry
rotated_at g s r =
    record
    { id = g.id; issuer = g.issuer; sn = r.sn; latest = said_at s r.latest; toad = r.toad.0; configs = g.configs; backers = updated_members g.backers (members_in s r.cuts) (members_in s r.additions) }

-- its outcome: after a refusal the state is the one that was handed in
abbrev pub rotation_at : Registry → List ℕ → Result RotationRead RegistryRejection → Outcome
rotation_at g s (Ok r) = record { answer = Ok tt; state = rotated_at g s r }
rotation_at g s (Err x) = record { answer = Err x; state = g }
