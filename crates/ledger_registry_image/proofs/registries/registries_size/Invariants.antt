-- How far the loop has come: the size is that of the first `i` registries, behind the two bytes of the count.
use Rattle.std.proofs.Common.{◌≡◌, ◌+◌, ◌≤◌, ◌*◌}
use Rattle.ledger_sections.proofs.SectionSizes.{sized}
use Rattle.ledger_registry_image.proofs.registries.registries_size.Given as goal

abbrev pub invariant-loop-i : goal.invariant-loop-i
invariant-loop-i l = record { bytes : l.size ≡ sized l.registries l.i; few : l.size ≤ 2 + 657 * l.i }
