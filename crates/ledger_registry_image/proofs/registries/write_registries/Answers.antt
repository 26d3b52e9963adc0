use Rattle.std.proofs.Common.{◌≡◌, ◌<◌, ◌∙◌, add-one, ap, arith, length, sym}
use Rattle.ledger_sections.proofs.SectionSizes.{sized-none, sized-more}
use Rattle.ledger_sections.proofs.SectionWrites.{following, few-following, wrote, wrote_none, wrote-long, wrote-more, wrote-all, next-room}
use Rattle.ledger_registry_image.proofs.registries.write_registries.Goals as goal

-- behind the count none is written yet
pub loop-i-init : goal.loop-i-init
loop-i-init c =
    let xs = c.args.registries.now in
    record {
      place = sym (sized-none xs);
      written = (rw c.registries_size-size.ensures at c.write_head-n.ensures.1) ∙ wrote_none xs c.args.count c.args.out.now;
    }

-- there is room for one registry more
pub write_next-at-requires : goal.write_next-at-requires
write_next-at-requires c =
    let xs = c.args.registries.now in
    let bs = c.args.out.now in
    let l = c.loop-i in
    let many : c.write_head-n.result ≡ following xs c.args.count bs = rw c.registries_size-size.ensures at c.write_head-n.ensures.0 in
    rw (l.invariant.place, l.invariant.written, wrote-long xs c.args.count bs l.i) (next-room xs c.args.count bs l.i (omega (arith, many)))

-- one registry more is written behind the others
pub loop-i-preserved : goal.loop-i-preserved
loop-i-preserved c =
    let xs = c.args.registries.now in
    let bs = c.args.out.now in
    let l = c.loop-i in
    let w = c.write_next-at.ensures in
    let many : c.write_head-n.result ≡ following xs c.args.count bs = rw c.registries_size-size.ensures at c.write_head-n.ensures.0 in
    let there : l.i < length xs = omega (arith, many, few-following xs c.args.count bs) in
    record {
      place = rw add-one (w.0 ∙ rw l.invariant.place (sized-more xs l.i there));
      written = rw add-one (w.1 ∙ rw (l.invariant.written, l.invariant.place) (wrote-more xs c.args.count bs l.i there));
    }

-- the loop ends at the number of registries that follow the count
pub returns : goal.returns
returns c =
    let xs = c.args.registries.now in
    let bs = c.args.out.now in
    let many : c.write_head-n.result ≡ following xs c.args.count bs = rw c.registries_size-size.ensures at c.write_head-n.ensures.0 in
    let end : c.loop-i.i ≡ following xs c.args.count bs = (let e : c.loop-i.i ≡ c.write_head-n.result = omega arith in e ∙ many) in
    c.loop-i.invariant.written ∙ ap (wrote xs c.args.count bs) end ∙ wrote-all xs c.args.count bs
