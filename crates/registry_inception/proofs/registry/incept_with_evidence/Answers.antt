use native.Mathlib.Omega.{arith}
use Rattle.registry_inception.proofs.InceptionLaws.{within-outcome}
use Rattle.registry_inception.proofs.registry.incept_with_evidence.Goals as goal

pub returns-clause-within : goal.returns-clause-within
returns-clause-within c =
    let n = c.incepted.ensures.counts in
    within-outcome c.args.s.now (λ i. omega (arith, c.type_inv.s i)) _ (rw c.incepted.ensures.view c.in_ok-r.ensures) n.0 n.1
