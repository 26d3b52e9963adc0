-- The state of a registry: its layout and limits, and how it is read (docs/RULES.md, "Bytes").
use Rattle.std.specs.Prelude.{ℕ, List, [], ◌∷◌, ◌++◌, Bool, cond, ◌&&◌, leb, eqb}
use Rattle.laws.specs.Number.{digits}
use Rattle.cesr_sn.specs.Numbers.{sn_bytes}
use Rattle.cesr.specs.Primitives.{none, matter_bytes, is_basic, is_said}
use Rattle.cesr_sn.specs.declared.Sn.{Sn}
use Rattle.cesr.specs.declared.Matter.{Matter}
use Rattle.cesr.specs.declared.Said.{Said}
use Rattle.cesr.specs.declared.BasicPrefix.{BasicPrefix}
use Rattle.codec.specs.Configs.{view_configs}
use Rattle.events.specs.Members.{view}
use Rattle.codec.specs.Readers.{Reader, is_identifier, read_number, read_quad, read_identifier, read_said, mapped, both}
use Rattle.codec.specs.Events.{is_config, read_configs, read_prefixes}
use Rattle.codec.specs.Layout.{section_bytes, all, said_bytes, prefix_bytes, byte_bytes, is_matter, good_said, good_identifier, good_sn, good_toad, good_configs, good_prefixes}
use Rattle.registry_state.specs.declared.RegistryState.{RegistryState}

-- a registry as the rules see it: its config bytes and backers are lists
pub record Registry : Type 0 where
  pub id : Said
  pub issuer : Matter
  pub sn : Sn
  pub latest : Said
  pub toad : ℕ
  pub configs : List ℕ
  pub backers : List BasicPrefix

abbrev pub view_registry : RegistryState → Registry
view_registry g =
    record
    { id = g.id; issuer = g.issuer; sn = g.sn; latest = g.latest; toad = g.toad.0; configs = view_configs g.configs; backers = view g.backers }

-- a registry state: id, issuer, sn, latest, four-byte toad, config section, backer section
unfoldable pub registry_bytes : Registry → List ℕ
registry_bytes g =
    said_bytes g.id
    ++ (matter_bytes g.issuer
    ++ (sn_bytes g.sn
    ++ (said_bytes g.latest ++ (digits 4 g.toad ++ (section_bytes byte_bytes g.configs ++ section_bytes prefix_bytes g.backers)))))

-- the limits of a registry state
unfoldable pub good_registry : Registry → Bool
good_registry g =
    good_said g.id
    && (good_identifier g.issuer
    && (good_sn g.sn && (good_said g.latest && (good_toad g.toad && (good_configs g.configs && good_prefixes g.backers)))))

-- how it is read
abbrev pub registry_of : Said × (Matter × (Sn × (Said × (ℕ × (List ℕ × List BasicPrefix))))) → Registry
registry_of t =
    record
    { id = t.0; issuer = t.1.0; sn = t.1.1.0; latest = t.1.1.1.0; toad = t.1.1.1.1.0; configs = t.1.1.1.1.1.0; backers = t.1.1.1.1.1.1 }

unfoldable pub read_registry : Reader Registry
read_registry s c =
    mapped registry_of (both read_said (both read_identifier (both read_number (both read_said (both read_quad (both read_configs read_prefixes)))))) s c

-- a backer's letter is a basic prefix's
abbrev pub is_backer : BasicPrefix → Bool
is_backer p = is_basic p.0

-- what a state that is handed in as a value is held to: its counts, its letters, its config bytes
unfoldable pub well_registry : RegistryState → Bool
well_registry g =
    leb g.configs.count 8
    && (leb g.backers.count 16
    && (is_said g.id.0
    && (is_identifier g.issuer
    && (is_said g.latest.0 && (all is_config (view_configs g.configs) && all is_backer (view g.backers))))))

-- its words are words of 64 bits and its toad one of 32: so of every state that code can hold
unfoldable pub ranged_registry : RegistryState → Bool
ranged_registry g =
    is_matter g.id.0
    && (is_matter g.issuer
    && (good_sn g.sn && (is_matter g.latest.0 && (good_toad g.toad.0 && all (λ p. is_matter p.0) (view g.backers)))))

-- what stands where there is no state
abbrev pub no_said : Said
no_said = record { 0 = none }

abbrev pub no_sn : Sn
no_sn = record { hi = 0; lo = 0 }

abbrev pub no_registry : Registry
no_registry = record { id = no_said; issuer = none; sn = no_sn; latest = no_said; toad = 0; configs = []; backers = [] }

-- what the struct of the code stands for
-- an element and its count, 0 or 1
abbrev pub optional : {A : Type 0} → ℕ → A → List A
optional n x = cond (eqb n 0) [] (x ∷ [])
