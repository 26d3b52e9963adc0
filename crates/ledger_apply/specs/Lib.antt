pub use Rattle.ledger_stores.specs.Applies
