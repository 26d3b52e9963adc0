use Rattle.std.proofs.Common.{refl, map, option_to_list}
use Rattle.codec_cursor.specs.Readers.{read_identifier}
use Rattle.registry_state.specs.States.{view_registry, read_registry}
use Rattle.registry_state_credential.specs.CredentialStates.{read_credential}
use Rattle.registry_status.specs.Statuses.{read_registries, read_credentials, read_issuers, read_status}
use Rattle.registry_status.proofs.Optional.{section-optional}
use Rattle.registry_status.proofs.status.read_status.Goals as goal

pub returns : goal.returns
unfolding read_status read_registries read_credentials read_issuers
returns c =
    let s = c.args.s.now in
    let known = section-optional read_registry view_registry (λ o. map view_registry (option_to_list o)) s _ _ c.read_optional-known.result refl (λ x. refl) c.read_optional-known.ensures (λ x h. h.1.0) in
    let held = section-optional read_credential (λ x. x) option_to_list s _ _ c.read_optional-held.result refl (λ x. refl) c.read_optional-held.ensures (λ x h. h.1) in
    let given = section-optional read_identifier (λ x. x) option_to_list s _ _ c.read_optional-given.result refl (λ x. refl) c.read_optional-given.ensures (λ x h. h.1) in
    rw (← c.said-said.ensures, ← c.identifier-issuer.ensures, ← c.read_reference-about.ensures, ← known, ← held, ← given)
