use native.Mathlib.Omega.{arith}
use Rattle.laws.specs.Number.{Bytes}
use Rattle.registry_wire.proofs.AttemptLaws.{decode-read}
use Rattle.registry_wire.proofs.DecodedLaws.{anchored-parts}
use Rattle.registry_wire.proofs.Attempt.decode.Goals as goal

pub returns-then-not-end-s-clause-view : goal.returns-then-not-end-s-clause-view
returns-then-not-end-s-clause-view c =
    let read = decode-read _ (λ i. omega (arith, c.type_inv.s i)) _ _ _ _ _ _ (rw c.start.ensures at c.read_event-e.ensures) c.pass_sources-o.ensures c.pass_anchors-a.ensures c.pass_signatures-g.ensures c.count.ensures c.read_evidence-v.ensures in
    rw c.if-not-end-s.true at read.0

pub returns : goal.returns
returns c =
    let b : Bytes c.args.s.now = λ i. omega (arith, c.type_inv.s i) in
    let read = decode-read _ b _ _ _ _ _ _ (rw c.start.ensures at c.read_event-e.ensures) c.pass_sources-o.ensures c.pass_anchors-a.ensures c.pass_signatures-g.ensures c.count.ensures c.read_evidence-v.ensures in
    let view = rw c.if-not-end-s.false at read.0 in
    let parts = read.1 c.if-not-end-s.false in
    record { view = view; parts = anchored-parts _ _ b view parts.0 parts.1 }
