pub use Rattle.registry_backer.proofs.CodesAttempt
pub use Rattle.registry_backer.proofs.StickyAttempt
pub mod PartLaws
pub mod CredentialLaws
