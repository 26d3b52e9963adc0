pub use Rattle.events.proofs.Matters
pub use Rattle.events_tel.proofs.ConfigLaws
pub use Rattle.events_tel.proofs.Order
pub use Rattle.events_tel.proofs.Identifiers
pub mod Loops
