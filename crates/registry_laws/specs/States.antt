-- What states of one registry have in common (docs/RULES.md, "Next states").
use Rattle.std.specs.Prelude.{◌≡◌}
use Rattle.registry_state.specs.States.{Registry}

-- the same id, issuer and config
pub record OneRegistry (g h : Registry) : Type 0 where
  pub id : g.id ≡ h.id
  pub issuer : g.issuer ≡ h.issuer
  pub configs : g.configs ≡ h.configs
