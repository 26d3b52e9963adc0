-- The image's section of registries, of registries that are lent as one slice (docs/RULES.md, "Image").
use Rattle.std.specs.Prelude.{ℕ, min, ◌≡◌, List, map, Bool, ◌&&◌, length, take, drop}
use Rattle.cesr.specs.Primitives.{is_said}
use Rattle.codec_cursor.specs.Readers.{placed, is_identifier, times}
use Rattle.codec_cursor.specs.declared.Read.{Read}
use Rattle.codec.specs.Events.{is_config}
use Rattle.codec.specs.Layout.{all}
use Rattle.registry_state.specs.States.{Registry, view_registry, read_registry, is_backer}
use Rattle.registry_state.specs.declared.RegistryState.{RegistryState}
use Rattle.ledger_step.specs.Ledgers.{Held, held_of}
use Rattle.ledger_image.specs.Images.{registry_section}

-- the section of the first count registries, of at most 16
unfoldable pub section_of : List RegistryState → ℕ → List ℕ
section_of gs count = registry_section (map view_registry (take (min count 16) gs))

-- n registries of an image, one behind the other, behind the two bytes of the count
unfoldable pub registries_in : List ℕ → ℕ → Read (List Registry)
registries_in s n = times n read_registry s (placed 2)

-- whether its letters and config bytes are within the limits
unfoldable pub well_letters : Registry → Bool
well_letters g =
    is_said g.id.0
    && (is_identifier g.issuer && (is_said g.latest.0 && (all is_config g.configs && all is_backer g.backers)))

-- a registry that was read, as it is held: its counts are within the limits
abbrev pub held_read : Registry → Held
held_read g = record { well = well_letters g; state = g }

-- what storing count registries of an image comes to: as many as there are places for are held as they were read, and the other places stay
pub record Stored (s : List ℕ) (count : ℕ) (before after : List RegistryState) : Type 0 where
  pub long : length after ≡ length before
  pub held : map held_of (take (min count (length before)) after) ≡ map held_read (registries_in s (min count (length before))).value
  pub rest : drop (min count (length before)) after ≡ drop (min count (length before)) before
