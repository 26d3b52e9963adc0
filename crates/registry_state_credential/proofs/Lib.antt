pub mod CodesCredential
