-- A ledger in memory, and what an image leaves of it (docs/RULES.md, "Ledger", "Image").
use Rattle.ledger_image.specs.Ledgers as L
use Rattle.ledger_image.specs.Images.{ImageAnswer, ledger_of}
use Rattle.ledger_image.specs.Images.ImageAnswer.{refused, held}
use Rattle.ledger_table.specs.declared.Ledger.{Ledger}

-- the ledger that is handed in where both arrays are lent, each with its count
unfoldable pub view_ledger : Ledger → L.Ledger
view_ledger t = L.lent_ledger t.registries t.registry_count t.rows t.row_count

-- what is held once an image is answered: what it holds, or after a refusal what was held
abbrev pub ledger_after : ImageAnswer → L.Ledger → L.Ledger
ledger_after refused l = l
ledger_after (held gs ws) l = ledger_of gs ws
