pub use Rattle.codec.specs.Events
pub use Rattle.codec.specs.TelEvents
