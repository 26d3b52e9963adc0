pub use Rattle.codec.specs.Configs
pub use Rattle.codec.specs.Events
pub use Rattle.codec.specs.Layout
