pub mod CredentialErrors
