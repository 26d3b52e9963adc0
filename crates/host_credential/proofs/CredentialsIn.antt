-- Credential states in bytes, as the code reads them.
--     credential-is                    bytes are a credential state exactly when they are its layout and it is within the limits
--     credential-none, credential-some bytes that the code finds to be no credential state, and ones that it finds to be one
use Prim.Native.Nat.{ℕ}
use mathlib.Core.Path.{◌≡◌}
use mathlib.Core.Bool.{Bool, true, false, ◌&&◌}
use mathlib.Core.List.{List}
use mathlib.Core.Logic.{◌↔◌}
use mathlib.Core.Option.{none, some}
use lib.Dec.{eqb}
use lib.ListN.{length}
use Rattle.laws.specs.Number.{Bytes}
use Rattle.codec_cursor.specs.declared.Cursor.{Cursor}
use Rattle.codec_cursor.specs.Readers.{starting}
use Rattle.registry_state_credential.specs.CredentialStates.{credential_bytes, good_credential, read_credential, credential_at, view_credential_at}
use Rattle.registry_state_credential.specs.declared.CredentialState.{CredentialState}
use Rattle.registry_state_credential.specs.declared.CredentialAt.{CredentialAt}
use Rattle.registry_state_credential.proofs.CodesCredential.{codes-credential}
use Rattle.host_next.proofs.StatesIn.{whole_is}
use Rattle.host_credential.specs.CredentialByteFolds.{credential_in}

pub credential-is : (s : List ℕ) (w : CredentialState) → Bytes s → (credential_in s ≡ some w) ↔ ((s ≡ credential_bytes w) × (good_credential w ≡ true))
unfolding credential_in
credential-is s w b = whole_is codes-credential s w b

module _ (s : List ℕ) (c : Cursor) (t : Bool) (b : c ≡ starting) (r : CredentialAt) (e : view_credential_at s r ≡ read_credential s c) (f : t ≡ (r.next.ok && eqb r.next.at (length s))) where
  pub credential-none : t ≡ false → credential_in s ≡ none
  unfolding credential_in
  credential-none h = rw (← b, ← e, ← f, h)

  pub credential-some : t ≡ true → credential_in s ≡ some (credential_at s r)
  unfolding credential_in
  credential-some h = rw (← b, ← e, ← f, h)
