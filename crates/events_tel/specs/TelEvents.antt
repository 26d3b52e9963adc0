-- The six events, each with what it carries (docs/RULES.md, "Event kinds").
use Rattle.std.specs.Prelude.{ℕ, min, List}
use Rattle.codec_cursor.specs.Primitives.{read_matter, said_at}
use Rattle.codec_cursor.specs.declared.Sn.{Sn}
use Rattle.codec_cursor.specs.declared.Matter.{Matter}
use Rattle.codec_cursor.specs.declared.Said.{Said}
use Rattle.codec_cursor.specs.declared.BasicPrefix.{BasicPrefix}
use Rattle.events_tel.specs.Configs.{view_configs}
use Rattle.events_seal.specs.declared.Seal.{Seal}
use Rattle.codec_cursor.specs.Readers.{read_prefix, times}
use Rattle.events_tel.specs.declared.Listed.{Listed}
use Rattle.events_tel.specs.declared.Kind.{Kind}
use Rattle.events_tel.specs.declared.Kind.TheVariants.{Vcp, Vrt, Iss, Rev, Bis, Brv}
use Rattle.events_tel.specs.declared.TelEvent.{TelEvent}

-- the number of a kind
abbrev pub kind_number : Kind → ℕ
kind_number Vcp = 1
kind_number Vrt = 2
kind_number Iss = 3
kind_number Rev = 4
kind_number Bis = 5
kind_number Brv = 6

abbrev pub sn_zero : Sn
sn_zero = record { hi = 0; lo = 0 }

abbrev pub sn_one : Sn
sn_one = record { hi = 0; lo = 1 }

-- vcp, iss and bis have sn 0, rev and brv sn 1; a vrt carries its own
abbrev pub sn_of_kind : Kind → Sn → Sn
sn_of_kind Vcp own = sn_zero
sn_of_kind Vrt own = own
sn_of_kind Iss own = sn_zero
sn_of_kind Rev own = sn_one
sn_of_kind Bis own = sn_zero
sn_of_kind Brv own = sn_one

pub data Event : Type 0 where
  -- said, issuer, toad, config bytes, backers
  vcp : Said → Matter → ℕ → List ℕ → List BasicPrefix → Event
  -- said, registry, prior, sn, toad, cuts, additions
  vrt : Said → Said → Said → Sn → ℕ → List BasicPrefix → List BasicPrefix → Event
  -- said, credential, registry
  iss : Said → Said → Said → Event
  -- said, credential, registry, prior
  rev : Said → Said → Said → Said → Event
  -- said, credential, registry, the event's own seal
  bis : Said → Said → Said → Seal → Event
  -- said, credential, prior, the event's own seal
  brv : Said → Said → Said → Seal → Event

-- the prefixes of a list that stays in the bytes: at most 16, whatever its count says
unfoldable pub members_in : List ℕ → Listed → List BasicPrefix
members_in s l = (times (min l.count 16) read_prefix s l.start).value

-- what a struct of a kind stands for, over the bytes that it was read from: a digest, a prefix or a list is what stands at its place
abbrev pub event_as : List ℕ → Kind → TelEvent → Event
event_as s Vcp e = vcp (said_at s e.said) (read_matter s e.issuer) e.toad.0 (view_configs e.configs) (members_in s e.backers)
event_as s Vrt e =
    vrt (said_at s e.said) (said_at s e.registry) (said_at s e.prior) e.sn e.toad.0 (members_in s e.backers) (members_in s e.additions)
event_as s Iss e = iss (said_at s e.said) (said_at s e.credential) (said_at s e.registry)
event_as s Rev e = rev (said_at s e.said) (said_at s e.credential) (said_at s e.registry) (said_at s e.prior)
event_as s Bis e = bis (said_at s e.said) (said_at s e.credential) (said_at s e.registry) e.seal
event_as s Brv e = brv (said_at s e.said) (said_at s e.credential) (said_at s e.prior) e.seal

abbrev pub view_event : List ℕ → TelEvent → Event
view_event s e = event_as s e.kind e
