pub use Rattle.laws.specs.First
pub use Rattle.laws.specs.Number
pub use Rattle.laws.specs.Room
pub use Rattle.laws.specs.Words
