-- The next state of a registry, by the places of what it is made of (docs/RULES.md, "Next states").
use Rattle.std.specs.Prelude.{ℕ, List}
use Rattle.cesr.specs.Primitives.{read_matter}
use Rattle.cesr.specs.declared.BasicPrefix.{BasicPrefix}
use Rattle.events_tel.specs.Configs.{view_configs}
use Rattle.events_tel.specs.TelEvents.{members_in}
use Rattle.registry_bytes.specs.StateBytes.{state_bytes}
use Rattle.registry_members.specs.Updated.{updated_members}
use Rattle.registry_room.specs.declared.NextState.{NextState}

-- its backers: a list of the held bytes without the cuts, then the additions, both of the attempt's bytes
unfoldable pub next_members : List ℕ → List ℕ → NextState → List BasicPrefix
next_members held s p = updated_members (members_in held p.current) (members_in s p.cuts) (members_in s p.additions)

-- its bytes: id and issuer are of the held bytes, the digest of the last event is of the attempt's
unfoldable pub next_bytes : List ℕ → List ℕ → NextState → List ℕ
next_bytes held s p =
    state_bytes (read_matter held p.id) (read_matter held p.issuer) p.sn (read_matter s p.latest) p.toad.0 (view_configs p.configs) (next_members held s p)
