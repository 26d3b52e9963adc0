-- A ledger in memory, whole: both arrays and their counts, with what stands behind the counts.
use Rattle.ledger_stores.specs.Applies.{Lent, lent}
use Rattle.ledger_table.specs.declared.Ledger.{Ledger}

abbrev pub lent_of : Ledger → Lent
lent_of t = lent t.registries t.registry_count t.rows t.row_count
