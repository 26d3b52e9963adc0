pub use Rattle.registry_backing.specs.Backings
pub use Rattle.registry_transition.specs.Transitions
pub use Rattle.registry_backer.specs.Attempts
pub use Rattle.registry_backer.specs.Backers
pub use Rattle.registry_authentication.specs.Issuers
pub use Rattle.registry_issue.specs.IssueFolds
pub mod CredentialFolds
pub mod CredentialParts
