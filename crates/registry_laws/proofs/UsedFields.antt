-- What the folds of a credential read of a registry.
--     issue-reads, revocation-reads   id, issuer and config, and no more, unless the evidence is Backer
use Prim.Native.Nat.{ℕ}
use mathlib.Core.Path.{◌≡◌, refl, sym, ap, ◌∙◌}
use mathlib.Core.Logic.{◌≢◌}
use mathlib.Core.List.{List}
use mathlib.Core.Bool.{cond, ◌&&◌}
use Rattle.cesr.specs.Primitives.{eq_matter}
use Rattle.cesr_sn.specs.declared.Sn.{Sn}
use Rattle.cesr.specs.declared.Said.{Said}
use Rattle.events_seal.specs.Identifiers.{matter_of}
use Rattle.events_tel.specs.TelEvents.{Event}
use Rattle.events_tel.specs.TelEvents.Event.{vcp, vrt, iss, rev, bis, brv}
use Rattle.events_seal.specs.declared.Seal.{Seal}
use Rattle.events_seal.specs.declared.Seal.TheVariants.{Digest, Root, Source, Event as EventSeal, Last, Back, Kind, Opaque}
use Rattle.registry_state.specs.States.{Registry, view_registry, well_registry}
use Rattle.registry_state_credential.specs.CredentialStates.{well_credential, no_credential}
use Rattle.registry_state.specs.declared.RegistryState.{RegistryState}
use Rattle.registry_state_credential.specs.declared.CredentialState.{CredentialState}
use Rattle.registry_credential_state.specs.Attempts.{Message, Evidence, Decoded, decode_of}
use Rattle.registry_signatures.specs.declared.Signature.{Signature}
use Rattle.registry_credential_state.specs.Attempts.Decoded.{malformed, decoded}
use Rattle.registry_credential_state.specs.Attempts.Evidence.{missing, issuer, backer, backer_at}
use Rattle.registry_answer.specs.Answers.{accept_if, or_else, first_of}
use Rattle.registry_error.specs.Errors.{Answer}
use Rattle.std.proofs.Common.{Ok, Err}
use Rattle.registry_error.specs.declared.RegistryRejection.TheVariants.{Malformed, InconsistentRegistry}
use Rattle.registry_credential_state.specs.Backings.{backed_by}
use Rattle.registry_credential_state.specs.Backers.{same_registry, resolved_by, authority, authenticate_backer}
use Rattle.registry_credential_state.specs.IssueFolds.{Outcome, iss_answer, bis_answer, incept_event, incept_message, incept_decoded, incept_of}
use Rattle.registry_credential_state.specs.CredentialFolds.{rev_answer, brv_answer, ingest_event, ingest_answer, ingest_message, ingest_decoded, ingest_of}
use Rattle.registry_laws.specs.States.{OneRegistry}

or_assoc : (x y z : Answer) → or_else (or_else x y) z ≡ or_else x (or_else y z)
or_assoc (Ok u) y z = refl
or_assoc (Err r) y z = refl

module _ (g h : Registry) (one : OneRegistry g h) where
  -- the answer by the evidence, and what follows it
  by-evidence : (s : Sn) (d : Said) (e : Evidence) (l : List Signature) → e ≢ backer → or_else (resolved_by g s d e) (or_else (backed_by (authority g e).toad (authority g e).backers l) (Ok tt)) ≡ or_else (resolved_by h s d e) (or_else (backed_by (authority h e).toad (authority h e).backers l) (Ok tt))
  unfolding same_registry
  by-evidence s d missing l n = refl
  by-evidence s d (issuer prefix anchor) l n = refl
  by-evidence s d backer l n = absurd (n refl)
  by-evidence s d (backer_at k) l n = rw (one.id, one.issuer, one.configs)

  by-seal : (seal : Seal) (e : Evidence) (l : List Signature) → e ≢ backer → authenticate_backer g seal e l ≡ authenticate_backer h seal e l
  unfolding authenticate_backer first_of
  by-seal Digest e l n = refl
  by-seal Root e l n = refl
  by-seal Source e l n = refl
  by-seal (EventSeal i s d) e l n =
      let x = accept_if (eq_matter (matter_of i) g.id.0) InconsistentRegistry in
      let y = accept_if (eq_matter (matter_of i) h.id.0) InconsistentRegistry in
      or_assoc x (resolved_by g s d e) (or_else (backed_by (authority g e).toad (authority g e).backers l) (Ok tt))
      ∙ ap (or_else x) (by-evidence s d e l n)
      ∙ rw one.id (sym (or_assoc y (resolved_by h s d e) (or_else (backed_by (authority h e).toad (authority h e).backers l) (Ok tt))))
  by-seal Last e l n = refl
  by-seal Back e l n = refl
  by-seal Kind e l n = refl
  by-seal Opaque e l n = refl

  by-issue : (e : Event) (m : Message) → m.evidence ≢ backer → incept_event g e m ≡ incept_event h e m
  unfolding iss_answer bis_answer
  by-issue (vcp said prefix toad configs backers) m n = refl
  by-issue (vrt said registry prior sn toad cuts additions) m n = refl
  by-issue (iss said credential registry) m n = rw (one.id, one.configs, one.issuer)
  by-issue (rev said credential registry prior) m n = refl
  by-issue (bis said credential registry seal) m n = rw (by-seal seal m.evidence m.signatures n, one.id, one.configs, one.issuer)
  by-issue (brv said credential prior seal) m n = refl

  by-revocation : (w : CredentialState) (e : Event) (m : Message) → m.evidence ≢ backer → ingest_event g w e m ≡ ingest_event h w e m
  unfolding rev_answer brv_answer
  by-revocation w (vcp said prefix toad configs backers) m n = refl
  by-revocation w (vrt said registry prior sn toad cuts additions) m n = refl
  by-revocation w (iss said credential registry) m n = refl
  by-revocation w (rev said credential registry prior) m n = rw (one.id, one.configs, one.issuer)
  by-revocation w (bis said credential registry seal) m n = refl
  by-revocation w (brv said credential prior seal) m n = rw (by-seal seal m.evidence m.signatures n, one.id, one.configs, one.issuer)

-- Of a registry the fold for an issue reads only id, issuer and config, unless the evidence is Backer.
pub issue-reads : (g h : Registry) → OneRegistry g h → (m : Message) → m.evidence ≢ backer → incept_message g m ≡ incept_message h m
unfolding incept_message
issue-reads g h one m n = rw (by-issue g h one m.event m n, one.id)

-- Of a registry the fold for a revocation reads no more, unless the evidence is Backer.
pub revocation-reads : (g h : Registry) → OneRegistry g h → (w : CredentialState) (m : Message) → m.evidence ≢ backer → ingest_message g w m ≡ ingest_message h w m
unfolding ingest_message ingest_answer
revocation-reads g h one w m n = rw (by-revocation g h one w m.event m n, one.id)

-- The same of bytes, with two states that both are within the limits, or both not.
module _ (g h : RegistryState) (well : well_registry g ≡ well_registry h) (one : OneRegistry (view_registry g) (view_registry h)) (s : List ℕ) (other : (m : Message) → decode_of s ≡ decoded m → m.evidence ≢ backer) where
  pub issue-reads-bytes : incept_of g s ≡ incept_of h s
  unfolding incept_of
  issue-reads-bytes =
      rw well (ap (λ (r : Outcome). cond (well_registry h) r (record { answer = Err Malformed; state = no_credential })) (go (decode_of s) refl))
    where
      go : (d : Decoded) → decode_of s ≡ d → incept_decoded (view_registry g) d ≡ incept_decoded (view_registry h) d
      go malformed e = refl
      go (decoded m) e = issue-reads (view_registry g) (view_registry h) one m (other m e)

  pub revocation-reads-bytes : (w : CredentialState) → ingest_of g w s ≡ ingest_of h w s
  unfolding ingest_of
  revocation-reads-bytes w =
      rw well (ap (λ (r : Outcome). cond (well_registry h && well_credential w) r (record { answer = Err Malformed; state = w })) (go (decode_of s) refl))
    where
      go : (d : Decoded) → decode_of s ≡ d → ingest_decoded (view_registry g) w d ≡ ingest_decoded (view_registry h) w d
      go malformed e = refl
      go (decoded m) e = revocation-reads (view_registry g) (view_registry h) one w m (other m e)
