use Rattle.std.proofs.Common.{◌≡◌, ◌∙◌, add-one, ap, arith, sym}
use Rattle.ledger_sections.proofs.SectionSizes.{sized, sized-none, sized-more, sized-all}
use Rattle.ledger_registry_image.proofs.registries.registries_size.Goals as goal

pub loop-i-init : goal.loop-i-init
loop-i-init c = record { bytes = sym (sized-none c.args.registries.now); few = omega arith }

-- one registry more, of at most 657 bytes
pub loop-i-preserved : goal.loop-i-preserved
loop-i-preserved c =
    let h = c.size_with-size.ensures in
    record {
      bytes = rw add-one (h.0 ∙ rw c.loop-i.invariant.bytes (sized-more c.args.registries.now c.loop-i.i (omega (arith, c.section_count-n.ensures))));
      few = omega (arith, h.1);
    }

-- the loop ends at the section's number of registries
pub returns : goal.returns
returns c =
    let e : c.loop-i.i ≡ c.section_count-n.result = omega arith in
    c.loop-i.invariant.bytes ∙ ap (sized c.args.registries.now) (e ∙ c.section_count-n.ensures) ∙ sized-all c.args.registries.now c.args.count
