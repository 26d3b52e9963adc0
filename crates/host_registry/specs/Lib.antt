pub mod RegistryByteFolds
