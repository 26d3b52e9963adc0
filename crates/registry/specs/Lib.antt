pub use Rattle.registry_verification.specs.Sequence
pub use Rattle.registry_verification.specs.Starred
pub use Rattle.registry_inception.specs.InceptionFolds
pub mod RegistryFolds
