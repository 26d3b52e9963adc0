use mathlib.Core.Path.{ap, ◌∙◌}
use Rattle.codec_cursor.specs.declared.Read.{Read}
use Rattle.registry_state.specs.States.{Registry}
use Rattle.ledger_sections.specs.RegistrySections.{held_read}
use Rattle.ledger_sections.proofs.SectionReads.{counted-held}
use Rattle.ledger_sections.proofs.registries.read_next.Goals as goal

pub returns : goal.returns
returns c =
    (counted-held c.read.result.value c.read.ensures.counts ∙ ap (λ (r : Read Registry). held_read r.value) c.read.ensures.read, ap (λ (r : Read Registry). r.next) c.read.ensures.read)
