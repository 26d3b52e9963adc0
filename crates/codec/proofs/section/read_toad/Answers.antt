use mathlib.Core.Path.{◌∙◌}
use native.Mathlib.Omega.{arith}
use Rattle.events_tel.proofs.Order.{less_value}
use Rattle.events_tel.specs.Numbers.{value}
use Rattle.codec.specs.Events.{read_toad}
use Rattle.codec.proofs.section.read_toad.Goals as goal

pub returns : goal.returns
unfolding read_toad value
returns c =
    rw (c.from_wire-value.ensures, c.expect_that-next.ensures, c.lt.ensures ∙ less_value c.sn-n.result.value (record { hi = 0; lo = 4294967296 }) (omega arith) (omega arith), ← c.sn-n.ensures)
