-- The report of bytes that are an attempt, or are none (docs/RULES.md, "Host's calls").
use Rattle.std.specs.Prelude.{ℕ, List, [], ◌∷◌}
use Rattle.events_tel.specs.TelEvents.{Event, kind_number}
use Rattle.events_tel.specs.TelEvents.Event.{vcp, vrt, iss, rev, bis, brv}
use Rattle.events_tel.specs.declared.Kind.TheVariants.{Vcp, Vrt, Iss, Rev, Bis, Brv}
use Rattle.registry_wire.specs.Attempts.{Decoded}
use Rattle.registry_wire.specs.Attempts.Decoded.{malformed, decoded}
use Rattle.registry_error.specs.declared.RegistryRejection.TheVariants.{Malformed}
use Rattle.registry_error.specs.Errors.{Answer}
use Rattle.std.specs.Prelude.{Ok, Err}

-- the number of an event's kind
abbrev pub event_number : Event → ℕ
event_number (vcp said issuer toad configs backers) = kind_number Vcp
event_number (vrt said registry prior sn toad cuts additions) = kind_number Vrt
event_number (iss said credential registry) = kind_number Iss
event_number (rev said credential registry prior) = kind_number Rev
event_number (bis said credential registry seal) = kind_number Bis
event_number (brv said credential prior seal) = kind_number Brv

-- 1: bytes that are no attempt
abbrev pub decoded_answer : Decoded → Answer
decoded_answer malformed = Err Malformed
decoded_answer (decoded m) = Ok tt

-- the value of an attempt: the number of its kind
abbrev pub decoded_values : Decoded → List ℕ
decoded_values malformed = []
decoded_values (decoded m) = event_number m.event ∷ []
