pub use Rattle.ledger_written.proofs.WrittenBytes
