pub use Rattle.ledger_image.specs.Images
