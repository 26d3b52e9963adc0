pub use Rattle.cesr_number.proofs.First
pub use Rattle.cesr_number.proofs.Views
pub mod Matters
