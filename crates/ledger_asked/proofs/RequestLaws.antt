-- What an attempt names, by its event alone.
--     decodes_as     the decoder answers some attempt where the bytes are one, and there alone
--     request-named  what an event asks is named by the event
--     named-head     bytes that are an attempt ask what stands at the places of its names
--     unread         bytes that are none do not decode
--     asks_nothing   they ask nothing, and get 1
use Prim.Native.Nat.{ℕ}
use mathlib.Core.Path.{◌≡◌, refl, ap, ◌∙◌}
use mathlib.Core.Bool.{Bool, true, false, cond, ◌&&◌, true≢false, false≢true}
use mathlib.Core.List.{List, [], ◌∷◌}
use lib.Dec.{eqb}
use lib.ListN.{length}
use Rattle.std.specs.Prelude.{Option, None, Some, is_some}
use Rattle.laws.proofs.Tests.{and_left}
use Rattle.codec_cursor.specs.Readers.{starting}
use Rattle.codec.specs.Events.{read_event}
use Rattle.events_tel.specs.TelEvents.{Event}
use Rattle.events_tel.specs.TelEvents.Event.{vcp, vrt, iss, rev, bis, brv}
use Rattle.registry_wire.specs.Attempts.{Message, Decoded, read_message, decode_of, view_decoded}
use Rattle.registry_wire.specs.Attempts.Decoded.{malformed, decoded}
use Rattle.registry_wire.specs.declared.Attempt.{Attempt}
use Rattle.registry_wire.proofs.StickyAttempt.{sticky-sections}
use Rattle.registry_error.specs.declared.RegistryRejection.TheVariants.{Malformed}
use Rattle.ledger_step.specs.Pairs.{Pair, pair_in}
use Rattle.ledger_step.specs.Steps.{revocation_of, event_request, decoded_request, request_of}
use Rattle.ledger_step.specs.Steps.Request.{nothing}
use Rattle.ledger_asked.specs.Names.{named_of, named_pair, named_event, head_named, is_decoded, decodes}
use Rattle.ledger_asked.proofs.Places.{event-named}

pub decodes_as : (s : List ℕ) (d : Option Attempt) → view_decoded s d ≡ decode_of s → is_some d ≡ decodes s
unfolding decodes
decodes_as s d e = go d ∙ ap is_decoded e
  where
    go : (d : Option Attempt) → is_some d ≡ is_decoded (view_decoded s d)
    go None = refl
    go (Some a) = refl

request-named : (e : Event) (m : Message) → named_of (event_request e m) ≡ named_event e
request-named (vcp said issuer toad configs backers) m = refl
request-named (vrt said registry prior sn toad cuts additions) m = refl
request-named (iss said credential registry) m = refl
request-named (rev said credential registry prior) m = refl
request-named (bis said credential registry seal) m = refl
request-named (brv said credential prior seal) m = go (pair_in seal credential)
  where
    go : (l : List Pair) → named_of (revocation_of l m) ≡ named_pair l
    go [] = refl
    go (k ∷ l) = refl

-- the event of a message that was read to its end was read to its end
event-read : (s : List ℕ) → (read_message s starting).next.ok ≡ true → (read_event s starting).next.ok ≡ true
unfolding read_message
event-read s h = sticky-sections.before s (read_event s starting).next h

pub named-head : (s : List ℕ) → decodes s ≡ true → named_of (request_of s) ≡ head_named s
unfolding request_of decodes decode_of read_message
named-head s = go ((read_message s starting).next.ok && eqb (read_message s starting).next.at (length s)) refl
  where
    m : Message
    m = (read_message s starting).value

    go : (t : Bool) → ((read_message s starting).next.ok && eqb (read_message s starting).next.at (length s)) ≡ t → is_decoded (cond t (decoded m) malformed) ≡ true → named_of (decoded_request (cond t (decoded m) malformed)) ≡ head_named s
    go true e h = request-named m.event m ∙ event-named s (event-read s (and_left (read_message s starting).next.ok (eqb (read_message s starting).next.at (length s)) e))
    go false e h = absurd (false≢true h)

pub unread : (s : List ℕ) → decodes s ≡ false → decode_of s ≡ malformed
unfolding decodes
unread s = go (decode_of s)
  where
    go : (d : Decoded) → is_decoded d ≡ false → d ≡ malformed
    go malformed h = refl
    go (decoded m) h = absurd (true≢false h)

pub asks_nothing : (s : List ℕ) → decodes s ≡ false → request_of s ≡ nothing Malformed
unfolding request_of
asks_nothing s h = ap decoded_request (unread s h)
