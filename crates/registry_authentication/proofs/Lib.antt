pub use Rattle.registry_wire.proofs.CodesAttempt
pub mod AnchorTie
pub mod AnchorUse
pub mod EvidenceLaws
