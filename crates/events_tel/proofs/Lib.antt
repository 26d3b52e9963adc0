pub use Rattle.codec_cursor.proofs.Order
pub use Rattle.events_seal.proofs.Identifiers
pub mod ConfigLaws
