-- A registry's state without its list of backers.
use Rattle.std.specs.Prelude.{ℕ, List}
use Rattle.cesr.specs.declared.BasicPrefix.{BasicPrefix}
use Rattle.events_tel.specs.Configs.{view_configs}
use Rattle.events_tel.specs.TelEvents.{members_in}
use Rattle.codec_cursor.specs.declared.Read.{Read}
use Rattle.registry_state.specs.States.{Registry}
use Rattle.registry_management.specs.declared.Management.{Management}
use Rattle.registry_management.specs.declared.ManagementRead.{ManagementRead}

-- the registry that it is with these backers
abbrev pub view_management : Management → List BasicPrefix → Registry
view_management m backers =
    record { id = m.id; issuer = m.issuer; sn = m.sn; latest = m.latest; toad = m.toad.0; configs = view_configs m.configs; backers = backers }

-- and of one that was read, with the backers that stand in the bytes
abbrev pub view_management_read : List ℕ → ManagementRead → Read Registry
view_management_read s r = record { value = view_management r.value (members_in s r.backers); next = r.next }
