pub use Rattle.ledger_step.proofs.Rules
pub use Rattle.ledger_image.proofs.ImageLength
pub mod RowSections
pub mod RowTurns
pub mod SectionHeld
pub mod SectionReads
pub mod SectionSizes
pub mod SectionWrites
