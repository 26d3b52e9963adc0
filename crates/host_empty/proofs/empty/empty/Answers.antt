use mathlib.Core.Path.{◌≡◌}
use lib.ListN.{length}
use borrow.Author.Rules.{rules}
use Rattle.host_laws.proofs.LentLedger.{emptied}
use Rattle.host_empty.proofs.empty.empty.Goals as goal

pub returns : goal.returns
returns c =
    let arrays = c.fits-ledger in
    let l = c.args.ledger.now in
    let registries : length l.registries ≡ 16 = search rules in
    let rows : length l.rows ≡ 256 = search rules in
    emptied l.registries l.rows registries rows
