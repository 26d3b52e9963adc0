use mathlib.Core.Path.{ap, ◌∙◌}
use Rattle.host_ledger.specs.LedgerCalls.{look_up_report}
use Rattle.ledger_step.specs.Pairs.{Pair}
use Rattle.ledger_step.specs.Ledgers.{LookedUp, look_up}
use Rattle.ledger_table.specs.Tables.{view_ledger}
use Rattle.host.proofs.look.jamfell_look_up.Goals as goal

pub returns : goal.returns
unfolding view_ledger
returns c =
    let found = c.look_up-answer.ensures ∙ ap (λ (k : Pair). look_up (view_ledger c.args.ledger.now) k) c.key_in-key.ensures in
    record
    { number = c.report_looked_up.ensures.0 ∙ ap (λ (a : LookedUp). a.refusal) found; report = c.report_looked_up.ensures.1 ∙ ap (λ (a : LookedUp). look_up_report a) found }
