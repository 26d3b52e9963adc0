-- The source that an attempt states: its layout and limits (docs/RULES.md, "Bytes"), and how it is read.
use Rattle.std.specs.Prelude.{ℕ, List, [], ◌∷◌, ◌++◌, Bool, ◌&&◌, Option, None, Some}
use Rattle.cesr_sn.specs.Numbers.{sn_bytes}
use Rattle.cesr_sn.specs.declared.Sn.{Sn}
use Rattle.cesr.specs.declared.Said.{Said}
use Rattle.codec_cursor.specs.Readers.{Reader, read_number, read_said, mapped, both}
use Rattle.codec_cursor.specs.declared.Cursor.{Cursor}
use Rattle.codec.specs.Layout.{said_bytes, good_said, good_sn}
use Rattle.registry_source.specs.declared.Source.{Source}

abbrev pub source_bytes : Source → List ℕ
source_bytes x = sn_bytes x.sn ++ said_bytes x.said

unfoldable pub good_source : Source → Bool
good_source x = good_sn x.sn && good_said x.said

abbrev pub source_of : Sn × Said → Source
source_of t = record { sn = t.0; said = t.1 }

unfoldable pub read_source : Reader Source
read_source s c = mapped source_of (both read_number read_said) s c

-- at most one source, as a list
abbrev pub listed : Option Source → List Source
listed None = []
listed (Some x) = x ∷ []

-- what stands at a place: one source, or none where there is no place
abbrev pub sources_in : List ℕ → Option Cursor → List Source
sources_in s None = []
sources_in s (Some c) = (read_source s c).value ∷ []
