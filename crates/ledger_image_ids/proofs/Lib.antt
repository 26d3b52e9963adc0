pub use Rattle.ledger_step.proofs.Rules
pub use Rattle.ledger_step.proofs.OneMore
pub mod IdViews
