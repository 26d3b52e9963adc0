pub use Rattle.ledger_step.specs.Ledgers
pub use Rattle.ledger_step.specs.Refusals
pub use Rattle.ledger_step.specs.Steps
pub use Rattle.ledger_step.specs.Tables
pub mod Images
