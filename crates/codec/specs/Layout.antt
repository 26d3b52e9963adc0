-- The layout of an event, from the value to its bytes, and its limits (docs/RULES.md, "Bytes"). This is what a reader has to believe.
use Rattle.std.specs.Prelude.{ℕ, ◌^◌, List, [], ◌∷◌, ◌++◌, Bool, true, ◌&&◌, leb, ltb, length}
use Rattle.events.specs.Number.{digits}
use Rattle.events_tel.specs.Numbers.{sn_bytes}
use Rattle.events.specs.Primitives.{matter_bytes, is_basic, is_said}
use Rattle.events_tel.specs.declared.Sn.{Sn}
use Rattle.events.specs.declared.Matter.{Matter}
use Rattle.events.specs.declared.Said.{Said}
use Rattle.events.specs.declared.BasicPrefix.{BasicPrefix}
use Rattle.events_tel.specs.Identifiers.{matter_of}
use Rattle.events_tel.specs.declared.Identifier.{Identifier}
use Rattle.events_tel.specs.declared.Identifier.TheVariants.{Basic, SelfAddressing}
use Rattle.events_tel.specs.TelEvents.{Event}
use Rattle.events_tel.specs.TelEvents.Event.{vcp, vrt, iss, rev, bis, brv}
use Rattle.events_tel.specs.declared.Seal.{Seal}
use Rattle.events_tel.specs.declared.Seal.TheVariants.{Digest, Root, Source, Event as EventSeal, Last, Back, Kind, Opaque}
use Rattle.events_tel.specs.Readers.{is_identifier}
use Rattle.codec.specs.Events.{is_config}

-- the bytes of the elements, one behind the other
unfoldable pub joined : {A : Type 0} → (A → List ℕ) → List A → List ℕ
joined f [] = []
joined f (x ∷ l) = f x ++ joined f l

-- a section: a one-byte count, then its elements
unfoldable pub section_bytes : {A : Type 0} → (A → List ℕ) → List A → List ℕ
section_bytes f l = length l ∷ joined f l

-- every element passes
unfoldable pub all : {A : Type 0} → (A → Bool) → List A → Bool
all test [] = true
all test (x ∷ l) = test x && all test l

abbrev pub said_bytes : Said → List ℕ
said_bytes d = matter_bytes d.0

abbrev pub prefix_bytes : BasicPrefix → List ℕ
prefix_bytes p = matter_bytes p.0

abbrev pub byte_bytes : ℕ → List ℕ
byte_bytes b = b ∷ []

-- a seal's kind; an event seal has its identifier, number and digest behind it
abbrev pub seal_bytes : Seal → List ℕ
seal_bytes (EventSeal i s d) = 4 ∷ matter_bytes (matter_of i) ++ (sn_bytes s ++ said_bytes d)
seal_bytes Digest = 1 ∷ []
seal_bytes Root = 2 ∷ []
seal_bytes Source = 3 ∷ []
seal_bytes Last = 5 ∷ []
seal_bytes Back = 6 ∷ []
seal_bytes Kind = 7 ∷ []
seal_bytes Opaque = 8 ∷ []

-- the sections of an event: what stands in each, by kind
pub record Sections : Type 0 where
  pub primitives : List Matter
  pub numbers : List (List ℕ)
  pub configs : List ℕ
  pub backers : List BasicPrefix
  pub additions : List BasicPrefix
  pub seals : List Seal

abbrev pub sections_of : Event → Sections
sections_of (vcp said issuer toad configs backers) =
    record { primitives = said.0 ∷ issuer ∷ []; numbers = digits 16 toad ∷ []; configs = configs; backers = backers; additions = []; seals = [] }
sections_of (vrt said registry prior sn toad cuts additions) =
    record { primitives = said.0 ∷ registry.0 ∷ prior.0 ∷ []; numbers = sn_bytes sn ∷ digits 16 toad ∷ []; configs = []; backers = cuts; additions = additions; seals = [] }
sections_of (iss said credential registry) =
    record { primitives = said.0 ∷ credential.0 ∷ registry.0 ∷ []; numbers = []; configs = []; backers = []; additions = []; seals = [] }
sections_of (rev said credential registry prior) =
    record { primitives = said.0 ∷ credential.0 ∷ registry.0 ∷ prior.0 ∷ []; numbers = []; configs = []; backers = []; additions = []; seals = [] }
sections_of (bis said credential registry seal) =
    record { primitives = said.0 ∷ credential.0 ∷ registry.0 ∷ []; numbers = []; configs = []; backers = []; additions = []; seals = seal ∷ [] }
sections_of (brv said credential prior seal) =
    record { primitives = said.0 ∷ credential.0 ∷ prior.0 ∷ []; numbers = []; configs = []; backers = []; additions = []; seals = seal ∷ [] }

abbrev pub kind_byte : Event → ℕ
kind_byte (vcp said issuer toad configs backers) = 1
kind_byte (vrt said registry prior sn toad cuts additions) = 2
kind_byte (iss said credential registry) = 3
kind_byte (rev said credential registry prior) = 4
kind_byte (bis said credential registry seal) = 5
kind_byte (brv said credential prior seal) = 6

abbrev pub as_it_is : List ℕ → List ℕ
as_it_is l = l

-- the kind byte and sections 1 to 6
unfoldable pub six_sections : ℕ → Sections → List ℕ
six_sections kind x =
    kind
    ∷ section_bytes matter_bytes x.primitives
    ++ (section_bytes as_it_is x.numbers
    ++ (section_bytes byte_bytes x.configs
    ++ (section_bytes prefix_bytes x.backers ++ (section_bytes prefix_bytes x.additions ++ section_bytes seal_bytes x.seals))))

unfoldable pub event_bytes : Event → List ℕ
event_bytes e = six_sections (kind_byte e) (sections_of e)

-- a primitive's words are words of 64 bits
unfoldable pub is_matter : Matter → Bool
is_matter m = ltb m.w0 (256 ^ 8) && (ltb m.w1 (256 ^ 8) && (ltb m.w2 (256 ^ 8) && ltb m.w3 (256 ^ 8)))

-- the letters of each role
unfoldable pub good_said : Said → Bool
good_said d = is_said d.0 && is_matter d.0

unfoldable pub good_prefix : BasicPrefix → Bool
good_prefix p = is_basic p.0 && is_matter p.0

unfoldable pub good_identifier : Matter → Bool
good_identifier m = is_identifier m && is_matter m

-- both words are words of 64 bits
unfoldable pub good_sn : Sn → Bool
good_sn n = ltb n.hi (2 ^ 64) && ltb n.lo (2 ^ 64)

unfoldable pub good_toad : ℕ → Bool
good_toad t = ltb t (2 ^ 32)

-- at most 8 config bytes, each 1 to 6; at most 16 prefixes
unfoldable pub good_configs : List ℕ → Bool
good_configs l = leb (length l) 8 && all is_config l

unfoldable pub good_prefixes : List BasicPrefix → Bool
good_prefixes l = leb (length l) 16 && all good_prefix l

-- an identifier's case is the one of its letter
abbrev pub good_identity : Identifier → Bool
good_identity (Basic p) = good_prefix p
good_identity (SelfAddressing d) = good_said d

abbrev pub good_seal : Seal → Bool
good_seal (EventSeal i s d) = good_identity i && (good_sn s && good_said d)
good_seal Digest = true
good_seal Root = true
good_seal Source = true
good_seal Last = true
good_seal Back = true
good_seal Kind = true
good_seal Opaque = true

-- the limits of an event
abbrev pub good_event : Event → Bool
good_event (vcp said issuer toad configs backers) =
    good_said said && (good_identifier issuer && (good_toad toad && (good_configs configs && good_prefixes backers)))
good_event (vrt said registry prior sn toad cuts additions) =
    good_said said && (good_said registry && (good_said prior && (good_sn sn && (good_toad toad && (good_prefixes cuts && good_prefixes additions)))))
good_event (iss said credential registry) = good_said said && (good_said credential && good_said registry)
good_event (rev said credential registry prior) = good_said said && (good_said credential && (good_said registry && good_said prior))
good_event (bis said credential registry seal) = good_said said && (good_said credential && (good_said registry && good_seal seal))
good_event (brv said credential prior seal) = good_said said && (good_said credential && (good_said prior && good_seal seal))
