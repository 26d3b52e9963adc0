use native.Mathlib.Omega.{arith}
use borrow.Author.Tests.{ltb-false}
use mathlib.Core.Path.{sym}
use lib.ListN.{length}
use Rattle.cesr_number.proofs.BeBytes.{one-byte, read-short}
use Rattle.cesr_number.proofs.number.read_u8.Goals as goal

pub returns-in-Some : goal.returns-in-Some
returns-in-Some c = let h = c.in-Some.ensures.lookup in one-byte c.args.s.now c.args.at _ h.0 h.1

pub returns-in-None : goal.returns-in-None
returns-in-None c =
    let a = c.args in
    read-short _ a.at 1 (omega (arith, ltb-false a.at (length a.s.now) (sym c.in-None.ensures.lookup.0)))
