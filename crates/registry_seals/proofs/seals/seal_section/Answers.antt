use Prim.Native.Nat.{◌-◌}
use mathlib.Core.Path.{sym, ◌∙◌}
use native.Mathlib.Omega.{arith}
use lib.ListN.{length, drop, length-drop, drop_of_length-le}
use lib.Seq.{take_all}
use Rattle.registry_seals.specs.SealSections.{seal_section}
use Rattle.registry_seals.proofs.seals.seal_section.Goals as goal

pub returns-in-Some : goal.returns-in-Some
unfolding seal_section
returns-in-Some c =
    let e = c.args.event.now in
    let h = c.in-Some.ensures.lookup in
    h.0.2 ∙ take_all (length e - 82) (drop 82 e) (rw length-drop (omega arith))

pub returns-in-None : goal.returns-in-None
unfolding seal_section
returns-in-None c =
    let e = c.args.event.now in
    let h = c.in-None.ensures.lookup in
    sym (drop_of_length-le e {i = 82} (omega (arith, h.0)))
