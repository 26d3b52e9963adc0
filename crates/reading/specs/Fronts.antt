-- What reading takes from the front of an input.
use Rattle.std.specs.Prelude.{◌≡◌, ℕ, List, take, drop, Some, IfSome}
use Rattle.std.specs.declared.option.Option.{Option}

-- where the bytes ahead are known: P holds of the first n of them, or of all where there are fewer, and those behind them are ahead then
abbrev pub Takes : Option (List ℕ) → Option (List ℕ) → ℕ → (List ℕ → Type 0) → Type 0
Takes old new n P = IfSome old (λ s. P (take n s) × (new ≡ Some (drop n s)))
