-- The input of `status`: its layout and limits, and how it is read (docs/RULES.md, "Bytes").
use Rattle.std.specs.Prelude.{ℕ, List, [], ◌∷◌, ◌++◌, Bool, true, cond, ◌&&◌, ◌||◌, leb, eqb, length, map, ◌≡◌, ◌≢◌, Option, Some, None, option_to_list}
use Rattle.cesr.specs.Primitives.{matter_bytes}
use Rattle.cesr.specs.declared.Matter.{Matter}
use Rattle.cesr.specs.declared.Said.{Said}
use Rattle.codec_cursor.specs.Readers.{Reader, starting, need, read_byte, read_identifier, read_said, mapped, both, section}
use Rattle.codec_cursor.specs.declared.Read.{Read}
use Rattle.codec.specs.Layout.{section_bytes, all, said_bytes, good_said, good_identifier}
use Rattle.registry_state_credential.specs.declared.CredentialState.{CredentialState}
use Rattle.registry_status.specs.declared.Reference.{Reference}
use Rattle.registry_status.specs.declared.Reference.TheVariants.{Unnamed, Named, Block}
use Rattle.registry_status.specs.declared.StatusInput.{StatusInput}
use Rattle.registry_state.specs.States.{Registry, view_registry, registry_bytes, good_registry, read_registry}
use Rattle.registry_state_credential.specs.CredentialStates.{credential_bytes, good_credential, read_credential}

-- The input of `status`: a credential, and at most one registry state, credential state and issuer prefix. Each of the three is a list,
-- since that is what a section of the layout holds.
pub record Status : Type 0 where
  pub said : Said
  pub issuer : Matter
  pub reference : Reference
  pub registries : List Registry
  pub credentials : List CredentialState
  pub issuers : List Matter

abbrev pub reference_bytes : Reference → List ℕ
reference_bytes Unnamed = 0 ∷ []
reference_bytes (Named d) = 1 ∷ said_bytes d
reference_bytes Block = 2 ∷ []

unfoldable pub status_bytes : Status → List ℕ
status_bytes x =
    said_bytes x.said
    ++ (matter_bytes x.issuer
    ++ (reference_bytes x.reference
    ++ (section_bytes registry_bytes x.registries ++ (section_bytes credential_bytes x.credentials ++ section_bytes matter_bytes x.issuers))))

abbrev pub good_reference : Reference → Bool
good_reference Unnamed = true
good_reference (Named d) = good_said d
good_reference Block = true

-- at most one element, and that one within its limits
unfoldable pub good_optional : {A : Type 0} → (A → Bool) → List A → Bool
good_optional test l = leb (length l) 1 && all test l

unfoldable pub good_status : Status → Bool
good_status x =
    good_said x.said
    && (good_identifier x.issuer
    && (good_reference x.reference
    && (good_optional good_registry x.registries && (good_optional good_credential x.credentials && good_optional good_identifier x.issuers))))

-- how it is read
unfoldable pub read_reference : Reader Reference
read_reference s c =
    let b = read_byte s c in
    cond (eqb b.value 1) (mapped Named read_said s b.next)
    (record { value = cond (eqb b.value 2) Block Unnamed; next = need b.next (eqb b.value 0 || eqb b.value 2) })

unfoldable pub read_registries : Reader (List Registry)
read_registries s c = section 1 read_registry s c

unfoldable pub read_credentials : Reader (List CredentialState)
read_credentials s c = section 1 read_credential s c

unfoldable pub read_issuers : Reader (List Matter)
read_issuers s c = section 1 read_identifier s c

abbrev pub status_of : Said × (Matter × (Reference × (List Registry × (List CredentialState × List Matter)))) → Status
status_of t =
    record
    { said = t.0; issuer = t.1.0; reference = t.1.1.0; registries = t.1.1.1.0; credentials = t.1.1.1.1.0; issuers = t.1.1.1.1.1 }

unfoldable pub read_status : Reader Status
read_status s c =
    mapped status_of (both read_said (both read_identifier (both read_reference (both read_registries (both read_credentials read_issuers))))) s c

-- the bytes of an input, with nothing behind the third section
unfoldable pub decode_status : List ℕ → Option Status
decode_status s =
    cond ((read_status s starting).next.ok && eqb (read_status s starting).next.at (length s)) (Some (read_status s starting).value) None

-- what reading leaves of at most one element behind its count: none at 0, else what the reader may leave
abbrev pub IsOptional : {T : Type 0} → Read ℕ → (Read T → Type 0) → Read (Option T) → Type 0
IsOptional n reads result =
    (n.value ≡ 0 → result ≡ record { value = None; next = n.next })
    × (n.value ≢ 0 → (r : Read _) × reads r × (result ≡ record { value = Some r.value; next = r.next }))

-- what the struct of the code stands for
abbrev pub view_status : StatusInput → Status
view_status x =
    record
    { said = x.said; issuer = x.issuer; reference = x.reference; registries = map view_registry (option_to_list x.registry); credentials = option_to_list x.credential; issuers = option_to_list x.prefix }
