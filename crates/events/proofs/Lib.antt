pub use Rattle.cesr.proofs.Matters
pub mod MemberLaws
