-- The state of a credential: its layout and limits, and how it is read (docs/RULES.md, "Bytes").
use Rattle.std.specs.Prelude.{ℕ, List, ◌++◌, Bool, ◌&&◌}
use Rattle.cesr.specs.Primitives.{none, is_said, said_at}
use Rattle.cesr.specs.declared.Said.{Said}
use Rattle.cesr_sn.specs.Numbers.{sn_bytes}
use Rattle.cesr_sn.specs.declared.Sn.{Sn}
use Rattle.codec_cursor.specs.Readers.{Reader, read_number, read_said, mapped, both}
use Rattle.codec_cursor.specs.declared.Read.{Read}
use Rattle.codec_laws.specs.Layout.{said_bytes, is_matter, good_said, good_sn}
use Rattle.registry_state_credential.specs.declared.CredentialState.{CredentialState}
use Rattle.registry_state_credential.specs.declared.CredentialAt.{CredentialAt}

-- a credential state: registry, credential, sn, head
unfoldable pub credential_bytes : CredentialState → List ℕ
credential_bytes w = said_bytes w.registry ++ (said_bytes w.credential ++ (sn_bytes w.sn ++ said_bytes w.head))

-- its limits
unfoldable pub good_credential : CredentialState → Bool
good_credential w = good_said w.registry && (good_said w.credential && (good_sn w.sn && good_said w.head))

-- how it is read
abbrev pub credential_of : Said × (Said × (Sn × Said)) → CredentialState
credential_of t = record { registry = t.0; credential = t.1.0; sn = t.1.1.0; head = t.1.1.1 }

unfoldable pub read_credential : Reader CredentialState
read_credential s c = mapped credential_of (both read_said (both read_said (both read_number read_said))) s c

-- what a state that is handed in as a value is held to: its letters
unfoldable pub well_credential : CredentialState → Bool
well_credential w = is_said w.registry.0 && (is_said w.credential.0 && is_said w.head.0)

-- its words are words of 64 bits: so of every state that code can hold
unfoldable pub ranged_credential : CredentialState → Bool
ranged_credential w = is_matter w.registry.0 && (is_matter w.credential.0 && (good_sn w.sn && is_matter w.head.0))

-- what stands where there is no credential
abbrev pub no_credential : CredentialState
no_credential =
    record
    { registry = record { 0 = none }; credential = record { 0 = none }; sn = record { hi = 0; lo = 0 }; head = record { 0 = none } }

-- what the struct of the code stands for
-- the state that stands at these places
abbrev pub credential_at : List ℕ → CredentialAt → CredentialState
credential_at s r = record { registry = said_at s r.registry; credential = said_at s r.credential; sn = r.sn; head = said_at s r.head }

abbrev pub view_credential_at : List ℕ → CredentialAt → Read CredentialState
view_credential_at s r = record { value = credential_at s r; next = r.next }
