pub use Rattle.registry_head.proofs.HeadWrites
pub use Rattle.codec_laws.proofs.Codes
pub use Rattle.codec_laws.proofs.CodesRound
pub use Rattle.codec_laws.proofs.CodesSeal
pub use Rattle.codec_laws.proofs.Sticky
pub mod StateWrites
