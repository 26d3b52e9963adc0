pub use Rattle.ledger_reading.specs.Ledgers
pub use Rattle.ledger_reading.specs.Names
pub use Rattle.ledger_reading.specs.Pairs
pub use Rattle.ledger_reading.specs.Readings
pub use Rattle.ledger_reading.specs.Steps
pub mod Checks
