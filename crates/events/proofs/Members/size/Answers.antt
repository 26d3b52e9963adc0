use native.Mathlib.Omega.{arith}
use mathlib.Core.Path.{◌≡◌}
use lib.ListN.{length}
use Rattle.cesr.proofs.Views.{length-mapped}
use Rattle.events.proofs.MemberLaws.{view-size}
use Rattle.events.proofs.Members.size.Goals as goal

pub returns : goal.returns
returns c =
    let full : length c.args.self.now.items ≡ 16 = search length-mapped in
    record { value = omega (arith, view-size c.args.self.now full); self_len_bound = omega (arith, view-size c.args.self.now full) }
