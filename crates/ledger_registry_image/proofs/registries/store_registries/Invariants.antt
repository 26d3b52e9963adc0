-- How far the loop has come: the first `i` registries are stored, and the cursor is behind their bytes.
use Rattle.std.proofs.Common.{◌≡◌}
use Rattle.ledger_sections.proofs.SectionReads.{after, Upto}
use Rattle.ledger_registry_image.proofs.registries.store_registries.Given as goal

abbrev pub invariant-loop-i : goal.invariant-loop-i
invariant-loop-i l = record { behind : l.c ≡ after l.image l.i; stored : Upto l.image l.fn.registries l.i l.registries }
