use Prim.Native.Nat.{ℕ}
use mathlib.Core.Path.{ap, ◌∙◌}
use mathlib.Core.List.{List}
use native.Mathlib.Omega.{arith}
use Rattle.events.specs.declared.BasicPrefix.{BasicPrefix}
use Rattle.events_tel.specs.Readers.{read_prefix, times}
use Rattle.events_tel.specs.declared.Read.{Read}
use Rattle.events_tel.specs.TelEvents.{members_in}
use Rattle.codec.proofs.section.members_in.Goals as goal

pub returns : goal.returns
unfolding members_in
returns c =
    let r = c.read_members-r.ensures in
    let e = c.at_most_16.ensures in
    let a = c.args in (
      ap (λ (q : Read (List BasicPrefix)). q.value) r.read ∙ ap (λ (k : ℕ). (times k read_prefix a.s.now a.list.start).value) e,
      omega (arith, e, r.count),
    )
