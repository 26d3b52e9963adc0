use mathlib.Core.Path.{◌∙◌}
use native.Mathlib.Omega.{arith}
use lib.ListN.{length-set}
use Rattle.events_tel.specs.TelEvents.{members_in}
use Rattle.codec.specs.Layout.{section_bytes}
use Rattle.registry_members.specs.Updated.{survivors, updated_members}
use Rattle.registry_room.specs.NextStates.{next_members}
use Rattle.registry_room.proofs.Counts.{length-next, counted}
use Rattle.registry_copy.proofs.Copies.{set_before, backers-sets}
use Rattle.registry_copy.proofs.copy.copy_backers.Goals as goal

pub copy_survivors-left-requires : goal.copy_survivors-left-requires
copy_survivors-left-requires c =
    omega (arith, c.requires, length-next c.args.held.now c.args.s.now c.args.p)

pub copy_members-requires : goal.copy_members-requires
copy_members-requires c =
    let w = c.copy_survivors-left in
    rw length-set
    (omega (arith, c.requires, w.ensures.left, w.auto.out, length-next c.args.held.now c.args.s.now c.args.p))

pub returns : goal.returns
unfolding section_bytes next_members updated_members
returns c =
    let a = c.args in
    let w = c.copy_survivors-left in
    let n = (counted a.held.now a.s.now a.p _ _ w.ensures.left c.at_most_16.ensures).0 in
    let u = survivors (members_in a.s.now a.p.cuts) (members_in a.held.now a.p.current) in record {
      count = n;
      stored = c.copy_members.ensures
          ∙ rw (w.ensures.stored, set_before a.out.now 0 1 _ _ (omega arith), n, w.ensures.left) (backers-sets _ u (members_in a.s.now a.p.additions));
    }
