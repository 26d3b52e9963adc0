-- The image of a ledger: its layout, its limits and how it is read (docs/RULES.md, "Image", "Reading rules").
use Rattle.std.specs.Prelude.{ℕ, ◌+◌, ◌*◌, ◌≡◌, Bool, true, cond, ◌&&◌, List, [], ◌∷◌, ◌++◌, map, eqb, leb, length}
use Rattle.std.proofs.lemmas.List.Edits.{sets}
use Rattle.laws.specs.Number.{number_at, digits}
use Rattle.codec_cursor.specs.Readers.{Reader, starting, advanced, need, both, times}
use Rattle.codec.specs.Layout.{joined, all}
use Rattle.registry_state.specs.States.{Registry, registry_bytes, good_registry, read_registry}
use Rattle.registry_state_credential.specs.CredentialStates.{credential_bytes, good_credential, read_credential}
use Rattle.registry_state_credential.specs.declared.CredentialState.{CredentialState}
use Rattle.ledger_step.specs.Ledgers.{Held, Ledger, sound}
use Rattle.ledger_step.specs.Steps.{held_now}

-- a section of the image: a two-byte count, then its elements
unfoldable pub wide_bytes : {A : Type 0} → (A → List ℕ) → List A → List ℕ
wide_bytes f l = digits 2 (length l) ++ joined f l

-- the sections: the registries, then the credentials, each in the ledger's order
unfoldable pub registry_section : List Registry → List ℕ
registry_section gs = wide_bytes registry_bytes gs

unfoldable pub credential_section : List CredentialState → List ℕ
credential_section ws = wide_bytes credential_bytes ws

unfoldable pub image_bytes : List Registry → List CredentialState → List ℕ
image_bytes gs ws = registry_section gs ++ credential_section ws

-- the limits: at most 16 registries and at most 256 credentials, each within its own
unfoldable pub good_registries : List Registry → Bool
good_registries gs = leb (length gs) 16 && all good_registry gs

unfoldable pub good_credentials : List CredentialState → Bool
good_credentials ws = leb (length ws) 256 && all good_credential ws

unfoldable pub good_image : List Registry → List CredentialState → Bool
good_image gs ws = good_registries gs && good_credentials ws

-- a reader, then one that the value of the first picks
abbrev pub followed : {A B : Type 0} → Reader A → (A → Reader B) → Reader B
followed p q s c = q (p s c).value s (p s c).next

-- a two-byte count of at most limit; none are read where it is broken
unfoldable pub wide_count : ℕ → Reader ℕ
wide_count limit s c =
    let n = number_at s c.at 2 in
    let d = need (advanced s c 2) (leb n limit) in
    record { value = cond d.ok n 0; next = d }

-- a section of the image, of at most limit elements
unfoldable pub wide_section : {A : Type 0} → ℕ → Reader A → Reader (List A)
wide_section limit p s c = followed (wide_count limit) (λ n. times n p) s c

unfoldable pub read_registries : Reader (List Registry)
read_registries s c = wide_section 16 read_registry s c

unfoldable pub read_credentials : Reader (List CredentialState)
read_credentials s c = wide_section 256 read_credential s c

unfoldable pub read_image : Reader (List Registry × List CredentialState)
read_image s c = both read_registries read_credentials s c

-- the ledger that holds these states
unfoldable pub ledger_of : List Registry → List CredentialState → Ledger
ledger_of gs ws = record { registry_slots = 16; registry_count = length gs; registries = map held_now gs; row_slots = 256; row_count = length ws; rows = ws }

-- what a ledger holds
abbrev pub state_of : Held → Registry
state_of g = g.state

abbrev pub states_of : Ledger → List Registry
states_of l = map state_of l.registries

abbrev pub ledger_bytes : Ledger → List ℕ
ledger_bytes l = image_bytes (states_of l) l.rows

-- a ledger as code can hand it in, with counts within the limits: the counts are those of the states, and the states are within their ranges
pub record Ranged (l : Ledger) : Type 0 where
  pub registries-counted : l.registry_count ≡ length l.registries
  pub rows-counted : l.row_count ≡ length l.rows
  pub registries-good : all good_registry (states_of l) ≡ true
  pub rows-good : all good_credential l.rows ≡ true

-- the answer to an image: refused, or the registries and the rows
pub data ImageAnswer : Type 0 where
  refused : ImageAnswer
  held : List Registry → List CredentialState → ImageAnswer

-- its number
abbrev pub image_number : ImageAnswer → ℕ
image_number refused = 1
image_number (held gs ws) = 0

-- refused where the reader stops, where bytes follow the last section, or where a reading rule is broken
unfoldable pub image_of : List ℕ → ImageAnswer
image_of s =
    let r = read_image s starting in
    cond ((r.next.ok && eqb r.next.at (length s)) && sound (ledger_of r.value.0 r.value.1)) (held r.value.0 r.value.1) refused

-- the same, for slices of these lengths: others than 16 registries and 256 rows are refused
unfoldable pub image_into : ℕ → ℕ → List ℕ → ImageAnswer
image_into registry_slots row_slots s = cond (eqb registry_slots 16 && eqb row_slots 256) (image_of s) refused

-- what writing comes to: the number, the image's length, or 0 after a refusal, and the buffer
pub record Written : Type 0 where
  pub number : ℕ
  pub size : ℕ
  pub bytes : List ℕ

-- 1 before 30; the bytes past the image, and all of them after a refusal, are those that were there
unfoldable pub written_of : Ledger → List ℕ → Written
written_of l out =
    cond (sound l)
    (cond (leb (length (ledger_bytes l)) (length out))
    (record { number = 0; size = length (ledger_bytes l); bytes = sets out 0 (ledger_bytes l) })
    (record { number = 30; size = 0; bytes = out }))
    (record { number = 1; size = 0; bytes = out })

-- the sizes of the elements, summed
unfoldable pub summed : {A : Type 0} → (A → ℕ) → List A → ℕ
summed size [] = 0
summed size (x ∷ l) = size x + summed size l

-- the bytes of a registry state, counted
abbrev pub registry_size : Registry → ℕ
registry_size g = 121 + length g.configs + 33 * length g.backers
