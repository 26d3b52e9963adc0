-- A seal of another kind than an event's, which the code tells by its being none of an event.
--     no-event-named      names no registry
--     no-event-resolved   resolves to nothing
use mathlib.Core.Path.{◌≡◌, refl}
use mathlib.Core.Bool.{false}
use Rattle.cesr.specs.declared.Said.{Said}
use Rattle.cesr_sn.specs.declared.Sn.{Sn}
use Rattle.events_seal.specs.declared.Identifier.{Identifier}
use Rattle.events_seal.specs.declared.Seal.{Seal}
use Rattle.events_seal.specs.declared.Seal.TheVariants.{Event}
use Rattle.registry_wire.specs.States.{Registry}
use Rattle.registry_wire.specs.Attempts.{Evidence}
use Rattle.std.proofs.Common.{Err}
use Rattle.registry_error.specs.declared.RegistryRejection.TheVariants.{InconsistentManagement}
use Rattle.registry_backer.specs.Backers.{names_registry, resolved}

pub no-event-named : (seal : Seal) (id : Said) → ((i : Identifier) (s : Sn) (d : Said) → seal ≡ Event i s d → ⊥) → false ≡ names_registry seal id
no-event-named (Event i s d) id k = absurd (k i s d refl)
no-event-named _ id k = refl

pub no-event-resolved :
    (g : Registry) (seal : Seal) (e : Evidence) → ((i : Identifier) (s : Sn) (d : Said) → seal ≡ Event i s d → ⊥) → Err InconsistentManagement ≡ resolved g seal e
no-event-resolved g (Event i s d) e k = absurd (k i s d refl)
no-event-resolved g _ e k = refl
