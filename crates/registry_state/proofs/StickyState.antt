-- A cursor that has stopped stays so where the state of a registry is read.
use Rattle.registry_bytes.proofs.Sticky.{Sticky, sticky-both, sticky-mapped, sticky-said, sticky-identifier, sticky-number, sticky-quad, sticky-configs, sticky-prefixes}
use Rattle.registry_state.specs.States.{registry_of, read_registry}

pub sticky-registry : Sticky read_registry
unfolding read_registry
sticky-registry =
    sticky-mapped registry_of (sticky-both sticky-said (sticky-both sticky-identifier (sticky-both sticky-number (sticky-both sticky-said (sticky-both sticky-quad (sticky-both sticky-configs sticky-prefixes))))))
