use Rattle.ledger_image_rows_check.specs.IdLists.{view_ids}
use Rattle.ledger_image_check.proofs.RegistryChecks.{Turned}
use Rattle.ledger_image_check.proofs.registries.check_registries.Given as goal

abbrev pub invariant-loop-i : goal.invariant-loop-i
invariant-loop-i l = Turned l.s l.initial.next l.i l.next (view_ids l.ids)
