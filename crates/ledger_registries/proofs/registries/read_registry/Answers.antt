use mathlib.Core.Path.{sym}
use borrow.Author.Tests.{ltb-false}
use Rattle.ledger_registries.proofs.RegistryViews.{read_past}
use Rattle.ledger_registries.proofs.registries.read_registry.Goals as goal

pub returns-in-None-clause-held : goal.returns-in-None-clause-held
returns-in-None-clause-held c =
    read_past _ _ _ (ltb-false _ _ (sym c.in-None.ensures.lookup.0)) c.none.ensures
