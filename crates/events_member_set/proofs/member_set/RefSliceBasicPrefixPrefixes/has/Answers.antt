use Rattle.std.proofs.Common.{sym, ◌∙◌}
use Rattle.cesr.specs.Primitives.{eq_matter}
use Rattle.events.proofs.MemberLaws.{has-any}
use Rattle.events_member_set.proofs.member_set.RefSliceBasicPrefixPrefixes.has.Goals as goal

pub returns : goal.returns
unfolding eq_matter
returns c = c.contains.ensures.value ∙ sym (has-any c.args.x c.args.self.now)
