pub use Rattle.ledger_image.specs.Refusals
pub mod Checks
