pub mod CredentialStates
