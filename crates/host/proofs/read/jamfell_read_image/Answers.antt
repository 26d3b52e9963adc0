use Prim.Native.Nat.{ℕ}
use mathlib.Core.Path.{ap, ◌∙◌}
use Rattle.host_ledger.specs.LedgerCalls.{read_report}
use Rattle.host.proofs.read.jamfell_read_image.Goals as goal

pub returns : goal.returns
returns c =
    let read = c.read_into.ensures in
    record {
      number = c.report_read.ensures.0 ∙ read.number;
      report = c.report_read.ensures.1 ∙ ap (λ (n : ℕ). read_report n) read.number;
      ledger = read.ledger;
      kept = read.kept;
    }
