pub use Rattle.ledger_step.specs.Ledgers
pub use Rattle.ledger_step.specs.Steps
pub use Rattle.ledger_sections.specs.RegistrySections
pub use Rattle.ledger_sections.specs.RowImages
