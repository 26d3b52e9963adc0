pub use Rattle.registry_state.specs.States
pub mod Managements
