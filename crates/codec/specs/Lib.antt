pub use Rattle.events.specs.Primitives
pub use Rattle.events_tel.specs.Configs
pub use Rattle.events_tel.specs.Identifiers
pub use Rattle.events_tel.specs.Readers
pub use Rattle.events_tel.specs.TelEvents
pub mod Events
pub mod Layout
