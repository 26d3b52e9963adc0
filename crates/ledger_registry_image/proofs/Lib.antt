pub use Rattle.ledger_sections.proofs.SectionHeld
