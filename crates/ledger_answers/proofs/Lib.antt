pub use Rattle.ledger_reading.proofs.Chains
pub use Rattle.ledger_reading.proofs.RequestLaws
pub mod Behind
