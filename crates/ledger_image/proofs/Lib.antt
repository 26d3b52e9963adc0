pub use Rattle.ledger_step.proofs.Rules
pub use Rattle.ledger_step.proofs.SoundParts
pub mod CodesImage
pub mod CodesWide
pub mod ImageLength
pub mod ImageRounds
