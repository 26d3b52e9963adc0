pub use Rattle.ledger_image.proofs.ImageRounds
