pub use Rattle.registry_signatures.specs.SignatureSections
pub mod Receipts
pub mod Sequence
pub mod Starred
