pub use Rattle.registry_inception.proofs.InceptionLaws
pub mod RotationLaws
pub mod WellLaws
