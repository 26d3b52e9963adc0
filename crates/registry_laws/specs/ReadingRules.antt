-- The reading rules of one registry (docs/RULES.md, "Reading rules").
use Rattle.std.specs.Prelude.{Bool, not, ◌&&◌, ◌||◌, eqb, length}
use Rattle.events_tel.specs.Configs.{no_backers}
use Rattle.events.specs.Members.{check_members}
use Rattle.events_toad.specs.Toads.{exact_ok}
use Rattle.registry_state.specs.States.{Registry}
use Rattle.registry_answer.specs.Answers.{accepts, backer_set}

-- no two backers are equal; `Toad::exact` passes the toad with their number; with the trait NoBackers there are none
unfoldable pub sound_registry : Registry → Bool
sound_registry g =
    accepts (backer_set (check_members g.backers))
    && (exact_ok g.toad (length g.backers)
    && (not (no_backers g.configs) || eqb (length g.backers) 0))
