-- What an attempt asks of the ledger: the fold, and the names of what it is about (docs/RULES.md, "Ledger").
use Rattle.std.specs.Prelude.{ℕ, Bool, true, false, cond, List, [], ◌∷◌, eqb, Result, Ok, Err}
use Rattle.laws.specs.Number.{number_at}
use Rattle.cesr.specs.Primitives.{read_matter, said_at}
use Rattle.cesr.specs.declared.Said.{Said}
use Rattle.events_seal.specs.Identifiers.{identifier_of}
use Rattle.events_tel.specs.TelEvents.{Event}
use Rattle.events_tel.specs.TelEvents.Event.{vcp, vrt, iss, rev, bis, brv}
use Rattle.registry_state.specs.States.{no_said}
use Rattle.registry_error.specs.declared.RegistryRejection.{RegistryRejection}
use Rattle.registry_error.specs.declared.RegistryRejection.TheVariants.{InconsistentRegistry}
use Rattle.registry_wire.specs.Attempts.{Decoded, decode_of}
use Rattle.registry_wire.specs.Attempts.Decoded.{malformed, decoded}
use Rattle.ledger_step.specs.Pairs.{Pair, pair_under, pair_in}
use Rattle.ledger_step.specs.Steps.{Request}
use Rattle.ledger_step.specs.Steps.Request.{nothing, inception, rotation, issue, revocation}
use Rattle.ledger_asked.specs.declared.Asks.{Asks}
use Rattle.ledger_asked.specs.declared.Asks.TheVariants.{Inception, Rotation, Issue, Revocation}
use Rattle.ledger_asked.specs.declared.Named.{Named}

-- the fold and what it is about: a blank said where there is no credential
abbrev pub about : Asks → Said → Said → Named
about asks registry credential = record { asks = asks; registry = registry; credential = credential }

-- what is asked, by the request
abbrev pub named_of : Request → Result Named RegistryRejection
named_of (nothing r) = Err r
named_of (inception id m) = Ok (about Inception id no_said)
named_of (rotation id m) = Ok (about Rotation id no_said)
named_of (issue k m) = Ok (about Issue k.registry k.credential)
named_of (revocation k m) = Ok (about Revocation k.registry k.credential)

-- what is asked, by the event alone; 10: a brv that names no pair
abbrev pub named_pair : List Pair → Result Named RegistryRejection
named_pair [] = Err InconsistentRegistry
named_pair (k ∷ l) = Ok (about Revocation k.registry k.credential)

abbrev pub named_event : Event → Result Named RegistryRejection
named_event (vcp said issuer toad configs backers) = Ok (about Inception said no_said)
named_event (vrt said registry prior sn toad cuts additions) = Ok (about Rotation registry no_said)
named_event (iss said credential registry) = Ok (about Issue registry credential)
named_event (rev said credential registry prior) = Ok (about Revocation registry credential)
named_event (bis said credential registry seal) = Ok (about Issue registry credential)
named_event (brv said credential prior seal) = named_pair (pair_in seal credential)

-- The names in the bytes of an attempt, at the places where its kind has them (docs/RULES.md, "Bytes"): the kind at 0, the event's said at 2, and each further primitive 33 bytes on. Of bytes that are no attempt they mean nothing.
-- an iss, a rev and a bis: the credential, then the registry
abbrev pub named_at : Asks → List ℕ → Named
named_at asks s = about asks (said_at s 68) (said_at s 35)

-- a brv: the credential, then the prior, four empty sections, a count, and the seal: its kind and, where that is 4, its i
abbrev pub pair_at : List ℕ → List Pair
pair_at s = cond (eqb (number_at s 106 1) 4) (pair_under (identifier_of (read_matter s 107)) (said_at s 35)) []

-- by the kind, as it is read: what is no other is a brv
abbrev pub named_by : ℕ → List ℕ → Result Named RegistryRejection
named_by k s =
    cond (eqb k 1) (Ok (about Inception (said_at s 2) no_said))
    (cond (eqb k 2) (Ok (about Rotation (said_at s 35) no_said))
    (cond (eqb k 3) (Ok (named_at Issue s))
    (cond (eqb k 4) (Ok (named_at Revocation s))
    (cond (eqb k 5) (Ok (named_at Issue s))
    (named_pair (pair_at s))))))

unfoldable pub head_named : List ℕ → Result Named RegistryRejection
head_named s = named_by (number_at s 0 1) s

-- whether the bytes are an attempt
abbrev pub is_decoded : Decoded → Bool
is_decoded malformed = false
is_decoded (decoded m) = true

unfoldable pub decodes : List ℕ → Bool
decodes s = is_decoded (decode_of s)
