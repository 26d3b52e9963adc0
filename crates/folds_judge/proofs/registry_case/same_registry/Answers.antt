use Prim.Native.Nat.{◌≤◌}
use mathlib.Core.Path.{◌≡◌, sym}
use native.Mathlib.Omega.{arith}
use borrow.Author.Rules.{rules}
use lib.ListN.{length}
use lib.Seq.{length-take-le}
use Rattle.laws.proofs.Views.{length-mapped}
use Rattle.events_tel.proofs.ConfigLaws as C
use Rattle.events_tel.proofs.ConfigLaws.{pointwise_same}
use Rattle.events.proofs.MemberLaws as M
use Rattle.registry_state.specs.States.{view_registry, registry_bytes}
use Rattle.registry_state.specs.declared.RegistryState.{RegistryState}
use Rattle.registry_state.proofs.StateLoops.{length-registry}
use Rattle.folds_judge.proofs.Laws.{written}
use Rattle.folds_judge.proofs.registry_case.same_registry.Goals as goal

-- a state has at most 657 bytes
fits : (g : RegistryState) → length g.configs.codes ≡ 8 → length g.backers.items ≡ 16 → length (registry_bytes (view_registry g)) ≤ 657
fits g codes items =
    omega (arith, length-registry (view_registry g), C.view-size g.configs codes, M.view-size g.backers items)

pub slice_bounds-out-end : goal.slice_bounds-out-end
slice_bounds-out-end c =
    let fit = fits c.args.g (search rules) (search (length-mapped, c.well_formed.0.1.1.1.1.1.1.1.1)) in
    omega (arith, fit, c.size-n.ensures)

pub slice_bounds-eq-end : goal.slice_bounds-eq-end
slice_bounds-eq-end c =
    let fit = fits c.args.g (search rules) (search (length-mapped, c.well_formed.0.1.1.1.1.1.1.1.1)) in
    sym (length-take-le _ _ (omega (arith, fit, c.size-n.ensures)))

pub returns : goal.returns
returns c =
    let bytes = registry_bytes (view_registry c.args.g) in
    let fit = fits c.args.g (search rules) (search (length-mapped, c.well_formed.0.1.1.1.1.1.1.1.1)) in
    rw (c.eq.ensures, c.write.ensures.1, c.size-n.ensures, written _ bytes fit, pointwise_same)
