pub use Rattle.ledger_step.proofs.Rules
pub use Rattle.ledger_step.proofs.TableChecks
pub mod RegistryViews
