use native.Mathlib.Omega.{arith}
use Rattle.registry_wire.proofs.AttemptLaws.{issuer-read}
use Rattle.registry_wire.proofs.read_issuer.Goals as goal

pub returns : goal.returns
returns c =
    issuer-read _ _ (λ i. omega (arith, c.shared_slice_known-1.given i)) _ _ c.pass_identifier.ensures c.pass_anchors-a.ensures
