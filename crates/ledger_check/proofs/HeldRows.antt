-- How the registries of rows are searched for is how the rule says it.
--     all-held    every row's registry is among those that are held
use mathlib.Core.Path.{◌≡◌, refl, ap, ap₂}
use mathlib.Core.Bool.{Bool, ◌&&◌, ◌||◌}
use mathlib.Core.List.{List, [], ◌∷◌, map}
use Rattle.std.specs.List.{list_all, list_any}
use Rattle.cesr.specs.Primitives.{eq_said}
use Rattle.cesr.specs.declared.Said.{Said}
use Rattle.codec.specs.Layout.{all}
use Rattle.registry_state.specs.declared.RegistryState.{RegistryState}
use Rattle.registry_state_credential.specs.declared.CredentialState.{CredentialState}
use Rattle.ledger_step.specs.Tables.{has}
use Rattle.ledger_step.specs.Ledgers.{held_of, id_of, has_registry}

has-id : (gs : List RegistryState) (id : Said) → list_any (λ g. eq_said g.id id) gs ≡ has eq_said id (map id_of (map held_of gs))
unfolding has
has-id [] id = refl
has-id (g ∷ gs) id = ap (λ (t : Bool). eq_said g.id id || t) (has-id gs id)

pub all-held : (gs : List RegistryState) (ws : List CredentialState) → list_all (λ w. list_any (λ g. eq_said g.id w.registry) gs) ws ≡ all (has_registry (map id_of (map held_of gs))) ws
unfolding all
all-held gs [] = refl
all-held gs (w ∷ ws) = ap₂ (λ (s t : Bool). s && t) (has-id gs w.registry) (all-held gs ws)
