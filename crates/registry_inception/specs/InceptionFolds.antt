-- The inception of a registry, and what its folds share (docs/RULES.md, "Orders", "Next states").
use Rattle.std.specs.Prelude.{ℕ, List, [], ◌∷◌, not, cond, ◌&&◌, eqb, length}
use Rattle.cesr.specs.declared.Matter.{Matter}
use Rattle.cesr.specs.declared.Said.{Said}
use Rattle.cesr.specs.declared.BasicPrefix.{BasicPrefix}
use Rattle.cesr.specs.Primitives.{read_matter, said_at}
use Rattle.events_tel.specs.Configs.{no_backers, view_configs}
use Rattle.events.specs.Members.{check_members}
use Rattle.events_tel.specs.TelEvents.{Event, sn_zero, members_in}
use Rattle.events_tel.specs.TelEvents.Event.{vcp, vrt, iss, rev, bis, brv}
use Rattle.events_toad.specs.Toads.{exact_ok}
use Rattle.registry_authentication.specs.States.{Registry, view_registry, no_registry}
use Rattle.registry_authentication.specs.Attempts.{Message, Decoded, decode_of}
use Rattle.registry_authentication.specs.Attempts.Decoded.{malformed, decoded}
use Rattle.registry_authentication.specs.declared.RegistryState.{RegistryState}
use Rattle.registry_error.specs.declared.RegistryRejection.{RegistryRejection}
use Rattle.registry_error.specs.declared.RegistryRejection.TheVariants.{Malformed, NotRegistryInception, NoBackersWithBackers, InconsistentIssuer, BackerThreshold}
use Rattle.registry_error.specs.Errors.{Answer}
use Rattle.std.specs.Prelude.{Result, Ok, Err}
use Rattle.registry_answer.specs.Answers.{accepts, accept_if, backer_set, or_else, first_of}
use Rattle.registry_authentication.specs.Issuers.{issuer_kind, names_issuer, anchored}
use Rattle.registry_backing.specs.Backings.{enough_receipts}
use Rattle.registry_inception.specs.declared.Inception.{Inception}

-- an answer, and the state behind it
pub record Outcome : Type 0 where
  pub answer : Answer
  pub state : Registry

-- 26 of vcp and vrt
unfoldable pub threshold_fits : ℕ → ℕ → Answer
threshold_fits toad backers = accept_if (exact_ok toad backers) BackerThreshold

-- 11, 24, 26 of a vcp: the rules on its list, before the checks behind them
abbrev pub vcp_list : ℕ → List ℕ → List BasicPrefix → List Answer → List Answer
vcp_list toad configs backers rest =
    accept_if (not (no_backers configs && not (eqb (length backers) 0))) NoBackersWithBackers
    ∷ backer_set (check_members backers)
    ∷ threshold_fits toad (length backers)
    ∷ rest

-- a vcp after 6: 19 (prefix), 11, 24, 26, 20, 21, 27
unfoldable pub vcp_answer : Said → Matter → ℕ → List ℕ → List BasicPrefix → Message → Answer
vcp_answer said issuer toad configs backers m =
    first_of
    (accept_if (names_issuer m.evidence issuer) InconsistentIssuer
    ∷ vcp_list toad configs backers
    (anchored issuer said sn_zero said m.source m.anchor
    ∷ enough_receipts toad (length backers) m.signatures
    ∷ []))

-- 6: another kind
abbrev pub incept_event : Event → Message → Answer
incept_event (vcp said issuer toad configs backers) m = vcp_answer said issuer toad configs backers m
incept_event (vrt said registry prior sn toad cuts additions) m = Err NotRegistryInception
incept_event (iss said credential registry) m = Err NotRegistryInception
incept_event (rev said credential registry prior) m = Err NotRegistryInception
incept_event (bis said credential registry seal) m = Err NotRegistryInception
incept_event (brv said credential prior seal) m = Err NotRegistryInception

-- 18 or 19 (kind) first
unfoldable pub incept_answer : Message → Answer
incept_answer m = or_else (issuer_kind m.evidence) (incept_event m.event m)

-- the state that an inception leaves
abbrev pub incepted : Event → Registry
incepted (vcp said issuer toad configs backers) =
    record { id = said; issuer = issuer; sn = sn_zero; latest = said; toad = toad; configs = configs; backers = backers }
incepted (vrt said registry prior sn toad cuts additions) = no_registry
incepted (iss said credential registry) = no_registry
incepted (rev said credential registry prior) = no_registry
incepted (bis said credential registry seal) = no_registry
incepted (brv said credential prior seal) = no_registry

unfoldable pub incept_message : Message → Outcome
incept_message m = record { answer = incept_answer m; state = cond (accepts (incept_answer m)) (incepted m.event) no_registry }

-- 1 before everything
abbrev pub incept_decoded : Decoded → Outcome
incept_decoded malformed = record { answer = Err Malformed; state = no_registry }
incept_decoded (decoded m) = incept_message m

unfoldable pub incept_of : List ℕ → Outcome
incept_of s = incept_decoded (decode_of s)

-- what a fold of values answers, from the state that was handed in: after a refusal the state is that one
abbrev pub view_outcome : Registry → Result RegistryState RegistryRejection → Outcome
view_outcome g (Ok h) = record { answer = Ok tt; state = view_registry h }
view_outcome g (Err r) = record { answer = Err r; state = g }

-- the state that the places of an inception stand for, over the bytes that it was read from
unfoldable pub incepted_at : List ℕ → Inception → Registry
incepted_at s r =
    record
    { id = said_at s r.said; issuer = read_matter s r.issuer; sn = sn_zero; latest = said_at s r.said; toad = r.toad.0; configs = view_configs r.configs; backers = members_in s r.backers }

-- its outcome
abbrev pub inception_at : List ℕ → Result Inception RegistryRejection → Outcome
inception_at s (Ok i) = record { answer = Ok tt; state = incepted_at s i }
inception_at s (Err r) = record { answer = Err r; state = no_registry }
