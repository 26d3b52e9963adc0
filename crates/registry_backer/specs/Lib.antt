pub use Rattle.registry_wire.specs.Attempts
pub mod Backers
