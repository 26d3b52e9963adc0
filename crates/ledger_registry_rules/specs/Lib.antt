pub use Rattle.registry_laws.specs.Pairs
pub use Rattle.registry_laws.specs.ReadingRules
