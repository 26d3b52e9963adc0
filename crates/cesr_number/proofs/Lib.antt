pub use Rattle.laws.proofs.First
pub use Rattle.laws.proofs.Number
pub use Rattle.laws.proofs.Room
pub use Rattle.laws.proofs.Tests
pub use Rattle.laws.proofs.Views
pub use Rattle.laws.proofs.Words
pub mod BeBytes
