use Rattle.std.proofs.Common.{◌≡◌, ◌∙◌, refl, []}
use Rattle.events.specs.declared.Rule.TheVariants.{DuplicateBacker}
use Rattle.events.specs.Members.{check_members}
use Rattle.events.proofs.MemberLaws.{repeat-alone, members-offends}
use Rattle.events_member_set.proofs.member_set.check_members.Goals as goal

pub returns : goal.returns
unfolding check_members
returns g c =
    let l = g.L.Prefixes.list c.args.members in
    let e : c.check.result ≡ check_members l = c.check.ensures ∙ repeat-alone DuplicateBacker l l [] refl in
    record { answer = e; offends = rw e (members-offends l) }
