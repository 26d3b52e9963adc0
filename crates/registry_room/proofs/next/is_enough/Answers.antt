use Prim.Native.Nat.{ℕ}
use mathlib.Core.Path.{ap, sym}
use native.Mathlib.Omega.{arith}
use lib.Dec.{leb}
use lib.ListN.{length}
use borrow.Author.Tests.{le-leb}
use Rattle.registry_bytes.proofs.StateWrites.{few-configs}
use Rattle.registry_room.specs.NextStates.{next_bytes}
use Rattle.registry_room.proofs.Counts.{most-next, size-next}
use borrow.Author.Rules.{rules}
use Rattle.registry_room.proofs.next.is_enough.Goals as goal

pub overflow_add-size : goal.overflow_add-size
overflow_add-size c = omega (arith, few-configs c.args.p.configs (search rules))

pub overflow_add-size-2 : goal.overflow_add-size-2
overflow_add-size-2 c = omega (arith, few-configs c.args.p.configs (search rules), c.at_most_16-2.ensures, c.at_most_16.ensures)

pub returns-then-size-count : goal.returns-then-size-count
returns-then-size-count c =
    let held = c.args.held.now in
    let s = c.args.s.now in
    let p = c.args.p in
    sym (le-leb (length (next_bytes held s p)) _ (omega (arith, size-next held s p, most-next held s p _ _ c.at_most_16.ensures c.at_most_16-2.ensures, c.size.ensures)))

pub returns : goal.returns
returns c = ap (λ (n : ℕ). leb n c.args.bytes) c.next_size.ensures
