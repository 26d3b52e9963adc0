-- The pair that an event names (docs/RULES.md, "Ledger").
use Rattle.std.specs.Prelude.{ℕ, List, [], ◌∷◌}
use Rattle.cesr.specs.declared.Said.{Said}
use Rattle.events_tel.specs.TelEvents.{Event}
use Rattle.events_tel.specs.TelEvents.Event.{vcp, vrt, iss, rev, bis, brv}
use Rattle.events_seal.specs.declared.Identifier.{Identifier}
use Rattle.events_seal.specs.declared.Identifier.TheVariants.{Basic, SelfAddressing}
use Rattle.events_seal.specs.declared.Seal.{Seal}
use Rattle.events_seal.specs.declared.Seal.TheVariants.{Digest, Root, Source, Event as EventSeal, Last, Back, Kind, Opaque}
use Rattle.registry_state_credential.specs.declared.CredentialState.{CredentialState}
use Rattle.registry_credential_state.specs.Attempts.{Decoded, decode_of}
use Rattle.registry_credential_state.specs.Attempts.Decoded.{malformed, decoded}

-- a registry's said together with a credential's
pub record Pair : Type 0 where
  pub registry : Said
  pub credential : Said

-- of a brv: its registry is the i of its own seal, where the seal is of kind 4 and i is a said
abbrev pub pair_under : Identifier → Said → List Pair
pair_under (Basic p) credential = []
pair_under (SelfAddressing d) credential = record { registry = d; credential = credential } ∷ []

abbrev pub pair_in : Seal → Said → List Pair
pair_in Digest credential = []
pair_in Root credential = []
pair_in Source credential = []
pair_in (EventSeal i s d) credential = pair_under i credential
pair_in Last credential = []
pair_in Back credential = []
pair_in Kind credential = []
pair_in Opaque credential = []

-- one pair, or none
abbrev pub pair_of : Event → List Pair
pair_of (vcp said issuer toad configs backers) = []
pair_of (vrt said registry prior sn toad cuts additions) = []
pair_of (iss said credential registry) = record { registry = registry; credential = credential } ∷ []
pair_of (rev said credential registry prior) = record { registry = registry; credential = credential } ∷ []
pair_of (bis said credential registry seal) = record { registry = registry; credential = credential } ∷ []
pair_of (brv said credential prior seal) = pair_in seal credential

-- malformed bytes name nothing
abbrev pub pair_decoded : Decoded → List Pair
pair_decoded malformed = []
pair_decoded (decoded m) = pair_of m.event

abbrev pub pair_of_bytes : List ℕ → List Pair
pair_of_bytes s = pair_decoded (decode_of s)

-- the pair of a credential state
abbrev pub key_of : CredentialState → Pair
key_of w = record { registry = w.registry; credential = w.credential }
