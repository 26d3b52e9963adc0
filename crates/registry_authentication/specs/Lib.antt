pub use Rattle.registry_wire.specs.Attempts
pub use Rattle.registry_wire.specs.States
pub mod Issuers
