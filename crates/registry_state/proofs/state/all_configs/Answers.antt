use Rattle.std.proofs.Common.{rules, tests, ◌∙◌}
use Rattle.std.proofs.lemmas.Iterator.{YieldsList-from_slice}
use Rattle.std.proofs.lemmas.Iterator.Search.{all_from_yields_List}
use Rattle.codec.specs.Configs.{view_configs}
use Rattle.codec.specs.Events.{is_config}
use Rattle.registry_state.proofs.StateLoops.{list_all_is}
use Rattle.registry_state.proofs.state.all_configs.Goals as goal

pub returns : goal.returns
returns c =
    all_from_yields_List is_config _ _ _ c.all.ensures.ran (YieldsList-from_slice (view_configs c.args.configs) (cc)) (λ x b q k. search (rules, tests))
    ∙ list_all_is is_config (view_configs c.args.configs)
