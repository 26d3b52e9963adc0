use mathlib.Core.Path.{◌≡◌}
use lib.ListN.{length}
use borrow.Author.Rules.{rules}
use Rattle.std.proofs.lemmas.Result.{err_from_is_err_and}
use Rattle.ledger_laws.proofs.ReadLedger.{number-as, view-as, read-refused}
use Rattle.ledger.proofs.ledger.read_image.Goals as goal

pub returns-in_err-read : goal.returns-in_err-read
returns-in_err-read c =
    let held = c.args.held in
    let p = err_from_is_err_and c.from_residual.result c.from_residual.ensures.1 in
    let registries : length held.registries ≡ 16 = search rules in
    let rows : length held.rows ≡ 256 = search rules in
    let number = number-as held c.args.image.now registries rows _ _ _ c.read_image.ensures _ c.in_err-read.was in
    record { number = rw p.1 number; ledger = rw p.1 (read-refused held c.args.image.now number) }

pub returns : goal.returns
returns c =
    let held = c.args.held in
    let s = c.args.image.now in
    let registries : length held.registries ≡ 16 = search rules in
    let rows : length held.rows ≡ 256 = search rules in
    record
    { number = number-as held s registries rows _ _ _ c.read_image.ensures _ c.in_ok-read.was; ledger = view-as held s registries rows _ _ _ c.read_image.ensures _ c.in_ok-read.was }
