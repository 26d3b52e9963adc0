pub use Rattle.cesr_number.proofs.Views
pub use Rattle.cesr_number.proofs.Words
pub mod Passing
pub use Rattle.cesr_sn.proofs.Order
