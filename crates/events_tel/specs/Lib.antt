pub use Rattle.codec_cursor.specs.Numbers
pub use Rattle.codec_cursor.specs.Readers
pub use Rattle.events_seal.specs.Identifiers
pub mod Configs
pub mod TelEvents
