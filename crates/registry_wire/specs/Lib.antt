pub use Rattle.registry_source.specs.Sources
pub use Rattle.registry_state.specs.States
pub mod Attempts
