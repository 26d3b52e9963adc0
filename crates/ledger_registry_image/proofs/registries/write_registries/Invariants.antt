-- How far the loop has come: the first `i` registries are written behind the count, and `at` is the place behind them.
use Rattle.std.proofs.Common.{◌≡◌}
use Rattle.ledger_sections.proofs.SectionSizes.{sized}
use Rattle.ledger_sections.proofs.SectionWrites.{wrote}
use Rattle.ledger_registry_image.proofs.registries.write_registries.Given as goal

abbrev pub invariant-loop-i : goal.invariant-loop-i
invariant-loop-i l = record { place : l.at ≡ sized l.registries l.i; written : l.out ≡ wrote l.registries l.count l.fn.out l.i }
