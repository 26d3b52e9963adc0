pub use Rattle.ledger_image_ids.specs.IdLists
pub mod RowTests
pub mod Marks
