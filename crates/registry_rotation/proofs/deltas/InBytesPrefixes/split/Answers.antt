use Rattle.std.proofs.Common.{ap, ◌∙◌}
use Rattle.cesr.specs.declared.BasicPrefix.{BasicPrefix}
use Rattle.codec.specs.declared.Read.{Read}
use Rattle.registry_rotation.proofs.Listed.{listed-head, listed-tail}
use Rattle.registry_rotation.proofs.deltas.InBytesPrefixes.split.Goals as goal

pub returns : goal.returns
returns c =
    let l = c.args.self.list in
    record {
      head = λ b. ap (λ (r : Read BasicPrefix). r.value) c.prefix-p.ensures ∙ listed-head _ l b;
      tail = listed-tail _ l _ _ (rw (← c.size.ensures) c.saturating_sub-count.ensures) (ap (λ (r : Read BasicPrefix). r.next) c.prefix-p.ensures);
    }
