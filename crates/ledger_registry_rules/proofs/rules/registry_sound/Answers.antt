use Rattle.ledger_registry_rules.proofs.InOrder.{in_order}
use Rattle.ledger_registry_rules.proofs.rules.registry_sound.Goals as goal

pub returns : goal.returns
returns c =
    rw (
      c.is_said-3.ensures,
      c.is_said-2.ensures,
      c.all_configs.ensures,
      c.backers_sound.ensures,
      c.no_backers.ensures,
      c.is_exact-threshold.ensures,
      c.is_said.ensures,
      c.is_basic.ensures,
      c.listed-backers.ensures,
    )
    (in_order c.args.g.now)
