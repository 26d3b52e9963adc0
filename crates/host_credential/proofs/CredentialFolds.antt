-- The folds over states that were read.
--     registry-none, registry-some   whether bytes are a registry state
--     issue, revocation   where they are states
--     issue-copied, revocation-copied   what they leave, copied from where it stands
--     revocation-none     where one of the two is none
use Prim.Native.Nat.{ℕ}
use mathlib.Core.Path.{◌≡◌, refl, sym, ap}
use mathlib.Core.Bool.{Bool, true, false, ◌&&◌}
use mathlib.Core.List.{List}
use mathlib.Core.Option.{Option, none, some}
use lib.Dec.{eqb}
use lib.ListN.{length}
use Rattle.codec_cursor.specs.declared.Cursor.{Cursor}
use Rattle.codec_cursor.specs.Readers.{starting}
use Rattle.codec_cursor.specs.declared.Read.{Read}
use Rattle.registry_state.specs.States.{Registry, read_registry}
use Rattle.registry_state_credential.specs.declared.CredentialState.{CredentialState}
use Rattle.registry_issue.specs.IssueFolds as I
use Rattle.registry_credential_state.specs.CredentialFolds as W
use Rattle.events_tel.specs.TelEvents.{sn_zero, sn_one}
use Rattle.registry_state_credential.specs.CredentialStates.{credential_at}
use Rattle.registry_state_credential.specs.declared.CredentialAt.{CredentialAt}
use Rattle.registry_state_credential.proofs.CodesCredential.{credential-head}
use Rattle.registry_wire.specs.Attempts.{decode_of}
use Rattle.registry_backing.specs.Backings.{own_among}
use Rattle.std.proofs.Common.{Ok}
use Rattle.registry_issue.specs.declared.Issue.{Issue}
use Rattle.registry_credential_state.specs.CredentialParts.{left_of, revoked_at, revocation_at}
use Rattle.registry_credential_state.specs.declared.Revocation.{Revocation}
use Rattle.host_next.specs.ByteFolds.{registry_in, credential_folded, credential_copied, no_state}
use Rattle.host_credential.specs.CredentialByteFolds.{credential_in, credential_incept, ingest_credential, credential_ingest}

-- bytes that the code finds to be no registry state, and ones that it finds to be one
module _ (s : List ℕ) (c : Cursor) (t : Bool) (b : c ≡ starting) (r : Read Registry) (e : r ≡ read_registry s c) (f : t ≡ (r.next.ok && eqb r.next.at (length s))) where
  pub registry-none : t ≡ false → registry_in s ≡ none
  unfolding registry_in
  registry-none h = rw (← b, ← e, ← f, h)

  pub registry-some : t ≡ true → registry_in s ≡ some r.value
  unfolding registry_in
  registry-some h = rw (← b, ← e, ← f, h)

module _ (s attempt : List ℕ) (g : Registry) (r : registry_in s ≡ some g) where
  pub issue : (o : I.Outcome) → o ≡ I.incept_decoded g (decode_of attempt) → credential_folded o ≡ credential_incept s attempt
  unfolding credential_incept
  issue o e = rw (r, e)

  pub revocation : (k : List ℕ) (w : CredentialState) → credential_in k ≡ some w → (o : I.Outcome) → o ≡ W.ingest_decoded g w (decode_of attempt) → credential_folded o ≡ credential_ingest s k attempt
  unfolding credential_ingest
  revocation k w q o e = rw (r, q, e)

-- what an accepted fold leaves, copied from where it stands
module _ (g : Registry) (s : List ℕ) where
  pub issue-copied : (o : Issue) → Ok tt ≡ own_among g.toad g.backers s o.own → credential_copied s s (record { first = o.registry; second = o.credential; sn = sn_zero; last = o.said }) ≡ credential_folded (I.issue_at g s (Ok o))
  issue-copied o e =
      rw (← e) (ap (λ (b : List ℕ). record { answer = (Ok tt); bytes = b }) (sym (credential-head (I.issued_at s o))))

  pub revocation-copied : (k : List ℕ) (w : CredentialAt) (o : Revocation) → Ok tt ≡ left_of g.toad g.backers (credential_at k w) s o → credential_copied k s (record { first = w.registry; second = w.credential; sn = sn_one; last = o.said }) ≡ credential_folded (revocation_at g (credential_at k w) s (Ok o))
  revocation-copied k w o e =
      rw (← e) (ap (λ (b : List ℕ). record { answer = (Ok tt); bytes = b }) (sym (credential-head (revoked_at (credential_at k w) s o))))

pub revocation-none : (s k attempt : List ℕ) (x y : Bool) → (x ≡ false → registry_in s ≡ none) → (y ≡ false → credential_in k ≡ none) → (x && y) ≡ false → credential_ingest s k attempt ≡ no_state
unfolding credential_ingest
revocation-none s k attempt false y f g h = rw (f refl)
revocation-none s k attempt true y f g h = rw (g h) (other (registry_in s))
  where
    other : (o : Option Registry) → ingest_credential o none attempt ≡ no_state
    other none = refl
    other (some r) = refl
