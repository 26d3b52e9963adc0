use borrow.Author.Tests.{ne_eqb}
use Rattle.registry_wire.proofs.AttemptLaws.{evidence-issuer, evidence-state, evidence-plain, backer-read, missing-read}
use Rattle.registry_wire.proofs.read_evidence.Goals as goal

pub returns-then-kind-eq1 : goal.returns-then-kind-eq1
returns-then-kind-eq1 c =
    rw (evidence-issuer _ _ _ c.byte-k.ensures c.if-kind-eq1.true) c.read_issuer.ensures

pub returns-then-kind-eq3 : goal.returns-then-kind-eq3
returns-then-kind-eq3 c =
    rw (evidence-state _ _ _ c.byte-k.ensures c.if-kind-eq3.true) c.read_backer_at.ensures

pub returns-then-kind-eq2 : goal.returns-then-kind-eq2
returns-then-kind-eq2 c =
    rw (evidence-plain _ _ _ c.byte-k.ensures c.if-kind-eq1.false c.if-kind-eq3.false, c.if-kind-eq2.true) (backer-read _ _ _ (rw c.if-kind-eq2.true at c.expect_that-next.ensures))

pub returns : goal.returns
returns c =
    rw (evidence-plain _ _ _ c.byte-k.ensures c.if-kind-eq1.false c.if-kind-eq3.false, ne_eqb _ 2 c.if-kind-eq2.false) (missing-read _ _ _ (rw (ne_eqb _ 2 c.if-kind-eq2.false) at c.expect_that-next.ensures))
