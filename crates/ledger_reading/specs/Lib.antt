pub use Rattle.ledger_asked.specs.Ledgers
pub use Rattle.ledger_asked.specs.Names
pub use Rattle.ledger_asked.specs.Pairs
pub use Rattle.ledger_asked.specs.Steps
pub mod Readings
