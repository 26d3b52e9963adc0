pub mod CredentialByteFolds
