pub use Rattle.ledger_step.proofs.PlaceLaws
pub use Rattle.ledger_step.proofs.Rules
pub use Rattle.ledger_step.proofs.TableChecks
pub use Rattle.ledger_step.proofs.TableLaws
