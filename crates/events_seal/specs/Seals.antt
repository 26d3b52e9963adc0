-- Seals (docs/RULES.md, "Identifiers and seals").
use Rattle.std.specs.Prelude.{ℕ}
use Rattle.events_seal.specs.declared.Seal.{Seal}
use Rattle.events_seal.specs.declared.Seal.TheVariants.{Digest, Root, Source, Event, Last, Back, Kind, Opaque}

-- the number of a seal's kind
abbrev pub kind_of : Seal → ℕ
kind_of Digest = 1
kind_of Root = 2
kind_of Source = 3
kind_of (Event i s d) = 4
kind_of Last = 5
kind_of Back = 6
kind_of Kind = 7
kind_of Opaque = 8
