-- The lists in which the position of refusal 24 counts (docs/RULES.md, "Lists of backers").
use Rattle.std.specs.Prelude.{List, []}
use Rattle.cesr.specs.declared.BasicPrefix.{BasicPrefix}
use Rattle.events.specs.Members.{Lists}
use Rattle.events_tel.specs.TelEvents.{Event}
use Rattle.events_tel.specs.TelEvents.Event.{vcp, vrt, iss, rev, bis, brv}

-- a list alone, with nothing cut and nothing added
abbrev pub alone : List BasicPrefix → Lists
alone backers = record { backers = backers; cuts = []; additions = [] }

-- of a vcp its own backers; else those that stand now, the registry's or the authority's, and what a vrt cuts and adds
abbrev pub lists_of : List BasicPrefix → Event → Lists
lists_of now (vcp said issuer toad configs backers) = alone backers
lists_of now (vrt said registry prior sn toad cuts additions) = record { backers = now; cuts = cuts; additions = additions }
lists_of now (iss said credential registry) = alone now
lists_of now (rev said credential registry prior) = alone now
lists_of now (bis said credential registry seal) = alone now
lists_of now (brv said credential prior seal) = alone now
