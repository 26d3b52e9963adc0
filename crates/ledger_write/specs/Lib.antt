pub use Rattle.ledger_written.specs.Writes
