pub use Rattle.ledger_asked.proofs.Chains
pub use Rattle.ledger_asked.proofs.RequestLaws
