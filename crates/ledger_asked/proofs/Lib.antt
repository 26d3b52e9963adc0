pub use Rattle.ledger_step.proofs.Chains
pub mod Places
pub mod RequestLaws
