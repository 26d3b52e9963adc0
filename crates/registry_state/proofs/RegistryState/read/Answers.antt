use native.Mathlib.Omega.{arith}
use Rattle.laws.specs.Number.{Bytes}
use Rattle.registry_state.specs.States.{read_registry}
use Rattle.registry_state.proofs.CodesState.{registry-read}
use Rattle.registry_state.proofs.RegistryState.read.Goals as goal

pub returns : goal.returns
unfolding read_registry
returns c =
    let bytes : Bytes c.args.s.now = λ i. omega (arith, c.shared_slice_known-1.given i) in
    let both = registry-read _ _ bytes _ _ c.trimmed-configs.ensures.1 c.read_prefixes-backers.ensures.count
    (rw (← c.said-id.ensures, ← c.identifier-issuer.ensures, ← c.sn-sn.ensures, ← c.said-latest.ensures, ← c.quad-toad.ensures, ← c.read_configs-configs.ensures, ← c.read_prefixes-backers.ensures.read, c.from_wire-toad.ensures, c.trimmed-configs.ensures.0)) in record { read = both.0; well = both.1.0; counts = both.1.1 }
