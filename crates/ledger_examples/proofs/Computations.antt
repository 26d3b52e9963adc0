-- What the examples come to, computed.
use mathlib.Core.Path.{◌≡◌, refl}
use mathlib.Core.Bool.{true}
use mathlib.Core.List.{[], ◌∷◌}
use Rattle.laws.specs.First.{first}
use Rattle.laws.specs.Count.{count}
use Rattle.cesr_sn.specs.Numbers.{value, sn_of}
use Rattle.cesr.specs.Primitives.{eq_matter, is_basic, is_said}
use Rattle.events.specs.Members.{check_members, check_deltas, check_current, check, breaks, has as has_member}
use Rattle.events_toad.specs.Toads.{exact_ok}
use Rattle.events_tel.specs.Configs.{no_backers, has_code}
use Rattle.codec_cursor.specs.Readers.{is_identifier}
use Rattle.codec.specs.Events.{is_config}
use Rattle.codec.specs.Layout.{all, good_said, good_identifier, good_sn, good_toad, good_configs, good_prefixes, is_matter}
use Rattle.registry_signatures.specs.SignatureSections.{good_signature}
use Rattle.registry_state_credential.specs.CredentialStates.{well_credential}
use Rattle.registry_source.specs.Sources.{good_source}
use Rattle.registry_wire.specs.Attempts.{good_message, good_anchors, good_anchor}
use Rattle.registry_error.specs.declared.RegistryRejection.TheVariants.{Malformed}
use Rattle.registry_answer.specs.Answers.{accept_if, first_of}
use Rattle.registry_verification.specs.Receipts.{has_good, receipts}
use Rattle.registry_verification.specs.Sequence.{next_sn}
use Rattle.registry_transition.specs.Transitions.{transition}
use Rattle.registry_members.specs.Updated.{survivors, updated_members}
use Rattle.registry_backing.specs.Backings.{enough_receipts, backed_by}
use Rattle.registry_backer.specs.Backers.{stands_at, authenticate_backer}
use Rattle.registry_authentication.specs.Issuers.{authenticate_issuer}
use Rattle.registry_inception.specs.InceptionFolds as N
use Rattle.registry.specs.RegistryFolds as R
use Rattle.registry_issue.specs.IssueFolds as I
use Rattle.registry_credential_state.specs.CredentialFolds as C
use Rattle.registry_laws.specs.ReadingRules.{sound_registry}
use Rattle.ledger_step.specs.Tables.{has, distinct, find, put}
use Rattle.ledger_step.specs.Ledgers.{holds, sound}
use Rattle.ledger_step.specs.Steps.{effect}
use Rattle.ledger_step.specs.Steps.Request.{nothing}
use Rattle.ledger_examples.specs.Conditions.{Whole}
use Rattle.ledger_examples.specs.Pieces.{inception}
use Rattle.ledger_examples.specs.Examples.{empty, one_plain, one_backed, issued, issued_by_head, revoked, first_rotation, second_rotation, one_left, issued_too, plain_and_backed, absent}
use Rattle.ledger_examples.proofs.Asked.{numbers_by}
use Rattle.ledger_examples.proofs.HeldRows as H
use Rattle.ledger_examples.proofs.Cases.{asked, Computed}

pub rotations : Computed one_backed first_rotation second_rotation (0 ∷ 0 ∷ []) (16 ∷ 0 ∷ [])
unfolding good_message all good_said good_identifier good_sn good_toad good_prefixes is_matter is_basic is_said is_identifier good_signature good_source good_anchors good_anchor numbers_by effect sound holds distinct has sound_registry check_members check first breaks has_member exact_ok no_backers has_code find put eq_matter R.ingest_message R.vrt_answer first_of accept_if next_sn value sn_of authenticate_issuer R.vrt_backers check_deltas check_current updated_members survivors N.threshold_fits enough_receipts receipts has_good count
rotations = record { good-first = refl; good-second = refl; whole = record { reads = refl; registries = refl; rows = refl }; first = refl; second = refl }

pub pairs : Computed one_plain issued revoked (0 ∷ 0 ∷ []) (5 ∷ 0 ∷ [])
unfolding good_message all good_said good_identifier good_sn is_matter is_basic is_said is_identifier good_signature good_source good_anchors good_anchor numbers_by effect sound holds distinct has sound_registry check_members check first exact_ok no_backers has_code find put eq_matter I.incept_message I.iss_answer C.ingest_message C.ingest_answer C.rev_answer transition first_of accept_if next_sn value sn_of authenticate_issuer well_credential
pairs = record { good-first = refl; good-second = refl; whole = record { reads = refl; registries = refl; rows = refl }; first = refl; second = refl }

pub inceptions : Computed empty inception issued (0 ∷ 0 ∷ []) (2 ∷ 0 ∷ [])
unfolding good_message all good_said good_identifier good_sn good_toad good_configs good_prefixes is_config is_matter is_basic is_said is_identifier good_signature good_source good_anchors good_anchor numbers_by effect sound holds distinct has sound_registry check_members check first exact_ok no_backers has_code find put eq_matter N.incept_message N.incept_answer N.vcp_answer N.threshold_fits enough_receipts receipts count I.incept_message I.iss_answer first_of accept_if value authenticate_issuer
inceptions = record { good-first = refl; good-second = refl; whole = record { reads = refl; registries = refl; rows = refl }; first = refl; second = refl }

pub heads : Computed one_backed issued_by_head first_rotation (0 ∷ 0 ∷ []) (0 ∷ 23 ∷ [])
unfolding good_message all good_said good_identifier good_sn good_toad good_prefixes is_matter is_basic is_said is_identifier good_signature good_source good_anchors good_anchor numbers_by effect sound holds distinct has sound_registry check_members check first breaks has_member exact_ok no_backers has_code find put eq_matter R.ingest_message R.vrt_answer first_of accept_if next_sn value sn_of authenticate_issuer R.vrt_backers check_deltas check_current updated_members survivors N.threshold_fits enough_receipts receipts has_good count I.incept_message I.bis_answer authenticate_backer stands_at backed_by well_credential
heads = record { good-first = refl; good-second = refl; whole = record { reads = refl; registries = refl; rows = refl }; first = refl; second = refl }

-- of 255 rows, by the laws of that ledger
pub rows : Computed one_left issued issued_too (0 ∷ 29 ∷ []) (0 ∷ 29 ∷ [])
unfolding good_message all good_said good_identifier good_sn is_matter is_basic is_said is_identifier good_signature good_source good_anchors good_anchor
rows = record
    { good-first = refl; good-second = refl; whole = record { reads = H.reads; registries = refl; rows = H.counted 255 }; first = H.numbers 3 11 4 12 refl; second = H.numbers 4 12 3 11 refl }

pub good-absent : good_message absent ≡ true
unfolding good_message all good_said good_identifier good_sn is_matter is_basic is_said is_identifier good_signature good_source good_anchors good_anchor
good-absent = refl

pub met-whole : Whole plain_and_backed
unfolding sound holds all distinct has eq_matter sound_registry check_members check first breaks has_member exact_ok no_backers has_code
met-whole = record { reads = refl; registries = refl; rows = refl }

pub met-one : numbers_by plain_and_backed (asked first_rotation ∷ asked second_rotation ∷ asked issued ∷ asked revoked ∷ asked absent ∷ nothing Malformed ∷ []) ≡ 0 ∷ 0 ∷ 0 ∷ 0 ∷ 5 ∷ 1 ∷ []
unfolding numbers_by effect sound holds all distinct has sound_registry check_members check first breaks has_member exact_ok no_backers has_code find put eq_matter is_said R.ingest_message R.vrt_answer first_of accept_if next_sn value sn_of authenticate_issuer R.vrt_backers check_deltas check_current updated_members survivors N.threshold_fits enough_receipts receipts has_good count I.incept_message I.iss_answer C.ingest_message C.ingest_answer C.rev_answer transition well_credential
met-one = refl

pub met-other : numbers_by plain_and_backed (nothing Malformed ∷ asked issued ∷ asked first_rotation ∷ asked absent ∷ asked revoked ∷ asked second_rotation ∷ []) ≡ 1 ∷ 0 ∷ 0 ∷ 5 ∷ 0 ∷ 0 ∷ []
unfolding numbers_by effect sound holds all distinct has sound_registry check_members check first breaks has_member exact_ok no_backers has_code find put eq_matter is_said R.ingest_message R.vrt_answer first_of accept_if next_sn value sn_of authenticate_issuer R.vrt_backers check_deltas check_current updated_members survivors N.threshold_fits enough_receipts receipts has_good count I.incept_message I.iss_answer C.ingest_message C.ingest_answer C.rev_answer transition well_credential
met-other = refl
