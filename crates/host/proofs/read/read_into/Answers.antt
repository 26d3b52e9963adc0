use mathlib.Core.Path.{◌≡◌}
use lib.ListN.{length}
use borrow.Author.Rules.{rules}
use Rattle.std.proofs.lemmas.Result.{err_from_is_err_and}
use Rattle.ledger_laws.proofs.ReadLedger.{number-as, view-as, kept-as}
use Rattle.host.proofs.read.read_into.Goals as goal

pub returns-in_err-read : goal.returns-in_err-read
returns-in_err-read c =
    let l = c.args.ledger.now in
    let s = c.args.image.now in
    let p = err_from_is_err_and c.from_residual.result c.from_residual.ensures.1 in
    let registries : length l.registries ≡ 16 = search rules in
    let rows : length l.rows ≡ 256 = search rules in
    record {
      number = rw p.1 (number-as l s registries rows _ _ _ c.read_image.ensures _ c.in_err-read.was);
      ledger = view-as l s registries rows _ _ _ c.read_image.ensures _ c.in_err-read.was;
      kept = kept-as l s registries rows _ _ _ c.read_image.ensures _ c.in_err-read.was;
    }

pub returns : goal.returns
returns c =
    let l = c.args.ledger.now in
    let s = c.args.image.now in
    let registries : length l.registries ≡ 16 = search rules in
    let rows : length l.rows ≡ 256 = search rules in
    record {
      number = number-as l s registries rows _ _ _ c.read_image.ensures _ c.in_ok-read.was;
      ledger = view-as l s registries rows _ _ _ c.read_image.ensures _ c.in_ok-read.was;
      kept = kept-as l s registries rows _ _ _ c.read_image.ensures _ c.in_ok-read.was;
    }
