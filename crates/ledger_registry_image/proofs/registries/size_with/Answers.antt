use Prim.Native.Nat.{◌≤◌}
use mathlib.Core.Path.{◌≡◌}
use native.Mathlib.Omega.{arith}
use borrow.Author.Rules.{rules}
use lib.ListN.{length}
use Rattle.laws.proofs.Views.{length-mapped}
use Rattle.registry_state.specs.States.{view_registry, registry_bytes}
use Rattle.ledger_sections.proofs.SectionSizes.{registry-few}
use Rattle.ledger_registry_image.proofs.registries.size_with.Goals as goal

pub overflow_add-result : goal.overflow_add-result
overflow_add-result c =
    let full-configs : (length c.args.g.configs.codes ≡ 8) =
    search rules in
    let full-backers : (length c.args.g.backers.items ≡ 16) =
    search length-mapped in
    let few : (length (registry_bytes (view_registry c.args.g)) ≤ 657) =
    registry-few c.args.g (full-configs) (full-backers) in
    omega (arith, few, c.size.ensures)

pub returns : goal.returns
returns c =
    let full-configs : (length c.args.g.configs.codes ≡ 8) =
    search rules in
    let full-backers : (length c.args.g.backers.items ≡ 16) =
    search length-mapped in
    let few : (length (registry_bytes (view_registry c.args.g)) ≤ 657) =
    registry-few c.args.g (full-configs) (full-backers) in
    (omega (arith, c.size.ensures), omega (arith, few, c.size.ensures))
