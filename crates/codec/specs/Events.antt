-- How an event is read: the kind byte, then six sections by kind.
use Rattle.std.specs.Prelude.{ℕ, ◌%◌, ◌^◌, List, Bool, cond, ◌&&◌, leb, ltb, eqb}
use Rattle.events_tel.specs.Numbers.{value}
use Rattle.events_tel.specs.declared.Sn.{Sn}
use Rattle.events_tel.specs.declared.Toad.{Toad}
use Rattle.events.specs.declared.Matter.{Matter}
use Rattle.events.specs.declared.Said.{Said}
use Rattle.events.specs.declared.BasicPrefix.{BasicPrefix}
use Rattle.events_tel.specs.Identifiers.{identifier_of}
use Rattle.events_tel.specs.TelEvents.{Event}
use Rattle.events_tel.specs.TelEvents.Event.{vcp, vrt, iss, rev, bis, brv}
use Rattle.events_tel.specs.declared.Seal.{Seal}
use Rattle.events_tel.specs.declared.Seal.TheVariants.{Digest, Root, Source, Event as EventSeal, Last, Back, Kind, Opaque}
use Rattle.events_tel.specs.Readers.{Reader, need, read_byte, read_byte_if, read_number, read_identifier, read_said, read_prefix, mapped, both, after, ended, section}

-- a config byte is 1 to 6
unfoldable pub is_config : ℕ → Bool
is_config b = leb 1 b && leb b 6

unfoldable pub read_config : Reader ℕ
read_config s c = read_byte_if is_config s c

-- a toad has 16 bytes and is below 2 ^ 32
unfoldable pub read_toad : Reader ℕ
read_toad s c =
    record { value = (read_number s c).value.lo % 2 ^ 32; next = need (read_number s c).next (ltb (value (read_number s c).value) (2 ^ 32)) }

-- a threshold's number
abbrev pub toad_value : Toad → ℕ
toad_value t = t.0

-- a seal that is no event seal, by its kind
unfoldable pub seal_of : ℕ → Seal
seal_of k =
    cond (eqb k 1) Digest
    (cond (eqb k 2) Root
    (cond (eqb k 3) Source
    (cond (eqb k 5) Last
    (cond (eqb k 6) Back
    (cond (eqb k 7) Kind
    Opaque)))))

abbrev pub event_seal : Matter × (Sn × Said) → Seal
event_seal t = EventSeal (identifier_of t.0) t.1.0 t.1.1

unfoldable pub read_event_seal : Reader Seal
read_event_seal s c = mapped event_seal (both read_identifier (both read_number read_said)) s c

unfoldable pub read_other_seal : Reader Seal
read_other_seal s c = mapped seal_of (read_byte_if (λ k. leb 1 k && leb k 8)) s c

-- a seal: a kind byte 1 to 8, and after a 4 its identifier, number and digest
unfoldable pub read_seal : Reader Seal
read_seal s c = cond (eqb (read_byte s c).value 4) (read_event_seal s (read_byte s c).next) (read_other_seal s c)

unfoldable pub read_configs : Reader (List ℕ)
read_configs s c = section 8 read_config s c

unfoldable pub read_prefixes : Reader (List BasicPrefix)
read_prefixes s c = section 16 read_prefix s c

-- sections 1 to 6 of each kind
abbrev pub vcp_of : Said × (Matter × (ℕ × (List ℕ × List BasicPrefix))) → Event
vcp_of t = vcp t.0 t.1.0 t.1.1.0 t.1.1.1.0 t.1.1.1.1

unfoldable pub read_vcp : Reader Event
read_vcp s c =
    mapped vcp_of
    (after 2 (both read_said (both read_identifier (after 1 (both read_toad (both read_configs (ended (ended read_prefixes 0) 0)))))))
    s c

abbrev pub vrt_of : Said × (Said × (Said × (Sn × (ℕ × (List BasicPrefix × List BasicPrefix))))) → Event
vrt_of t = vrt t.0 t.1.0 t.1.1.0 t.1.1.1.0 t.1.1.1.1.0 t.1.1.1.1.1.0 t.1.1.1.1.1.1

unfoldable pub read_vrt : Reader Event
read_vrt s c =
    mapped vrt_of
    (after 3 (both read_said (both read_said (both read_said (after 2 (both read_number (both read_toad (after 0 (both read_prefixes (ended read_prefixes 0)))))))))
    )
    s c

abbrev pub iss_of : Said × (Said × Said) → Event
iss_of t = iss t.0 t.1.0 t.1.1

unfoldable pub read_iss : Reader Event
read_iss s c = mapped iss_of (after 3 (both read_said (both read_said (ended (ended (ended (ended (ended read_said 0) 0) 0) 0) 0)))) s c

abbrev pub rev_of : Said × (Said × (Said × Said)) → Event
rev_of t = rev t.0 t.1.0 t.1.1.0 t.1.1.1

unfoldable pub read_rev : Reader Event
read_rev s c = mapped rev_of (after 4 (both read_said (both read_said (both read_said (ended (ended (ended (ended (ended read_said 0) 0) 0) 0) 0))))) s c

abbrev pub bis_of : Said × (Said × (Said × Seal)) → Event
bis_of t = bis t.0 t.1.0 t.1.1.0 t.1.1.1

unfoldable pub read_bis : Reader Event
read_bis s c = mapped bis_of (after 3 (both read_said (both read_said (both (ended (ended (ended (ended read_said 0) 0) 0) 0) (after 1 read_seal))))) s c

abbrev pub brv_of : Said × (Said × (Said × Seal)) → Event
brv_of t = brv t.0 t.1.0 t.1.1.0 t.1.1.1

unfoldable pub read_brv : Reader Event
read_brv s c = mapped brv_of (after 3 (both read_said (both read_said (both (ended (ended (ended (ended read_said 0) 0) 0) 0) (after 1 read_seal))))) s c

-- by the kind byte; another number is a fault
unfoldable pub read_kind : ℕ → Reader Event
read_kind k s c =
    cond (eqb k 1) (read_vcp s c)
    (cond (eqb k 2) (read_vrt s c)
    (cond (eqb k 3) (read_iss s c)
    (cond (eqb k 4) (read_rev s c)
    (cond (eqb k 5) (read_bis s c)
    (read_brv s (need c (eqb k 6)))))))

unfoldable pub read_event : Reader Event
read_event s c = read_kind (read_byte s c).value s (read_byte s c).next
