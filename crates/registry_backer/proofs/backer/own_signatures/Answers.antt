use Rattle.registry_backing.specs.Backings.{own_where}
use Rattle.registry_backer.proofs.AuthorityLaws.{unasked}
use Rattle.registry_backer.proofs.backer.own_signatures.Goals as goal

pub returns-in-Backer : goal.returns-in-Backer
unfolding own_where
returns-in-Backer c toad l b = rw c.in-Backer.is

pub returns-in_default : goal.returns-in_default
unfolding own_where
returns-in_default c toad l b = rw (unasked b c.args.a.now.evidence c.in_default.not-Backer)
