use Rattle.std.proofs.Common.{◌∙◌}
use Rattle.registry_rotation.proofs.Listed.{counted_listed}
use Rattle.registry_rotation.proofs.deltas.InBytesPrefixes.has.Goals as goal

pub returns : goal.returns
returns c = c.found_in.ensures ∙ rw (counted_listed _ c.args.self.list _ c.size.ensures)
