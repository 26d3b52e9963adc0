pub use Rattle.ledger_image_ids.proofs.IdViews
pub use Rattle.ledger_image_ids.proofs.OneMore
pub mod RowChecks
pub mod MarkLaws
