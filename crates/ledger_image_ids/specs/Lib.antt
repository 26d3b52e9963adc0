pub use Rattle.ledger_step.specs.Ledgers
pub use Rattle.ledger_step.specs.Pairs
pub use Rattle.ledger_step.specs.Tables
pub mod IdLists
