pub use Rattle.registry_wire.proofs.CodesAttempt
pub use Rattle.registry_wire.proofs.StickyAttempt
pub mod AuthorityLaws
pub mod SealLaws
