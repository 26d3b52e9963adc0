use Prim.Native.Nat.{◌+◌}
use borrow.Author.Tests.{lt-leb}
use lib.ListN.{length}
use Rattle.cesr.proofs.Matters.{matter-none}
use Rattle.cesr_write.proofs.Stored.{matter-part}
use Rattle.cesr_write.proofs.matter.copy_matter.Goals as goal

pub returns-in-Some : goal.returns-in-Some
returns-in-Some c =
    let h = c.in-Some.ensures in
    rw (matter-part c.args.s.now c.args.from (λ i. (c.type_inv.s i).fits) h.0, ← h.1) c.store.ensures

pub returns-in-None : goal.returns-in-None
returns-in-None c =
    let a = c.args in
    rw (← matter-none a.s.now a.from (lt-leb (a.from + 33) (length a.s.now) c.in-None.ensures), ← c.none.ensures) c.write_matter.ensures
