pub mod CredentialsIn
pub mod CredentialFolds
