-- Registries, messages and ledgers of which the examples are made (docs/RULES.md, "Bytes", "Event kinds").
use Rattle.std.specs.Prelude.{ℕ, true, List, [], ◌∷◌, map, length}
use Rattle.cesr_sn.specs.declared.Sn.{Sn}
use Rattle.cesr.specs.declared.Matter.{Matter}
use Rattle.cesr.specs.declared.Said.{Said}
use Rattle.cesr.specs.declared.BasicPrefix.{BasicPrefix}
use Rattle.events_tel.specs.TelEvents.{Event, sn_zero, sn_one}
use Rattle.events_tel.specs.TelEvents.Event.{vcp, vrt, iss, rev, bis}
use Rattle.events_seal.specs.declared.Identifier.TheVariants.{SelfAddressing}
use Rattle.events_seal.specs.declared.Seal.TheVariants.{Event as EventSeal}
use Rattle.registry_state.specs.States.{Registry}
use Rattle.registry_state_credential.specs.declared.CredentialState.{CredentialState}
use Rattle.registry_wire.specs.Attempts.{Evidence, Message}
use Rattle.registry_wire.specs.Attempts.Evidence.{issuer, backer}
use Rattle.ledger_step.specs.Ledgers.{Ledger}

-- primitives that differ in their first word: E for saids, B for backers
abbrev pub primitive : ℕ → ℕ → Matter
primitive letter n = record { code = letter; w0 = n; w1 = 0; w2 = 0; w3 = 0 }

abbrev pub said : ℕ → Said
said n = record { 0 = primitive 69 n }

abbrev pub prefix : ℕ → BasicPrefix
prefix n = record { 0 = primitive 66 n }

abbrev pub controller : Matter
controller = primitive 69 7

abbrev pub sn_two : Sn
sn_two = record { hi = 0; lo = 2 }

-- the saids of a registry without backers, of one with a backer, and of a credential
abbrev pub plain_id : Said
plain_id = said 1

abbrev pub backed_id : Said
backed_id = said 2

abbrev pub credential : Said
credential = said 3

-- as they are incepted: with the trait NoBackers, and with one backer whose receipt is asked
abbrev pub plain : Registry
plain = record { id = plain_id; issuer = controller; sn = sn_zero; latest = plain_id; toad = 0; configs = 3 ∷ []; backers = [] }

abbrev pub backed : Registry
backed = record { id = backed_id; issuer = controller; sn = sn_zero; latest = backed_id; toad = 1; configs = []; backers = prefix 1 ∷ [] }

-- a ledger of 16 and 256 slots that holds these registries, and n rows
abbrev pub holding : List Registry → ℕ → List CredentialState → Ledger
holding gs n ws =
    record { registry_slots = 16; registry_count = length gs; registries = map (λ (g : Registry). record { well = true; state = g }) gs; row_slots = 256; row_count = n; rows = ws }

-- An event of the controller: an event of its log has one seal, with this id, sn and said, and the first backer has signed.
abbrev pub sealed : Said → Sn → Said → Evidence → Event → Message
sealed id sn d evidence event =
    record
    { event = event; source = record { sn = sn_one; said = said 8 } ∷ []; anchor = record { prefix = controller; sn = sn_one; said = said 8; seals = EventSeal (SelfAddressing id) sn d ∷ [] } ∷ []; signatures = record { index = 0; verdict = 1 } ∷ []; evidence = evidence }

abbrev pub by_controller : Evidence
by_controller = issuer controller []

-- a message of a kind: the vcp of the registry without backers, a vrt of the one with a backer, an iss and a rev under the first; the last
-- said of each is the event's own
abbrev pub inception : Message
inception = sealed plain_id sn_zero plain_id by_controller (vcp plain_id controller 0 (3 ∷ []) [])

abbrev pub rotation : Said → Sn → Said → Message
rotation prior sn d = sealed backed_id sn d by_controller (vrt d backed_id prior sn 1 [] [])

abbrev pub issue : Said → Said → Message
issue c d = sealed c sn_zero d by_controller (iss d c plain_id)

abbrev pub revocation : Said → Said → Said → Message
revocation c prior d = sealed c sn_one d by_controller (rev d c plain_id prior)

-- a bis under the registry with a backer, whose authority is the head that its own seal names: the inception
abbrev pub issue_by_head : Said → Said → Message
issue_by_head c d = sealed c sn_zero d backer (bis d c backed_id (EventSeal (SelfAddressing backed_id) sn_zero backed_id))
