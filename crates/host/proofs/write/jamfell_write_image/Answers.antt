use mathlib.Core.Path.{ap, ◌∙◌}
use Rattle.host_ledger.specs.LedgerCalls.{image_report}
use Rattle.ledger_image.specs.Images.{Written}
use Rattle.ledger_write.proofs.WrittenBytes.{bytes-held}
use Rattle.ledger_table.specs.Tables.{view_ledger}
use Rattle.host.proofs.write.jamfell_write_image.Goals as goal

pub returns : goal.returns
unfolding view_ledger
returns c =
    let written = c.write_image-answer.ensures in
    let told = c.report_written.ensures c.write_image-answer.new.out in
    record
    { number = told.0 ∙ ap (λ (w : Written). w.number) written; report = told.1 ∙ ap (λ (w : Written). image_report w) written; image = bytes-held c.write_image-answer.result c.write_image-answer.new.out ∙ ap (λ (w : Written). w.bytes) written }
