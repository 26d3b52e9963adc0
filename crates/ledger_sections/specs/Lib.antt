pub use Rattle.ledger_step.specs.Ledgers
pub use Rattle.ledger_image.specs.Images
pub mod RegistrySections
pub mod RowImages
