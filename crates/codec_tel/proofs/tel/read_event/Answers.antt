use native.Mathlib.Omega.{arith}
use borrow.Author.Tests.{ne_eqb}
use Rattle.codec_tel_registry.specs.Events.{read_kind, read_event}
use Rattle.codec_tel.proofs.tel.read_event.Goals as goal

pub returns-in-1 : goal.returns-in-1
unfolding read_event read_kind
returns-in-1 c = rw (← c.byte-k.ensures, c.in-1.is) c.read_vcp.ensures

pub returns-in-2 : goal.returns-in-2
unfolding read_event read_kind
returns-in-2 c = rw (← c.byte-k.ensures, c.in-2.is) c.read_vrt.ensures

pub returns-in-3 : goal.returns-in-3
unfolding read_event read_kind
returns-in-3 c = rw (← c.byte-k.ensures, c.in-3.is) c.read_iss.ensures

pub returns-in-4 : goal.returns-in-4
unfolding read_event read_kind
returns-in-4 c = rw (← c.byte-k.ensures, c.in-4.is) c.read_rev.ensures

pub returns-in-5 : goal.returns-in-5
unfolding read_event read_kind
returns-in-5 c = rw (← c.byte-k.ensures, c.in-5.is) c.read_backed.ensures

pub returns-in_default : goal.returns-in_default
unfolding read_event read_kind
returns-in_default c =
    let n = c.byte-k.result.value in
    rw (
      ← c.byte-k.ensures,
      ne_eqb n 1 (λ e. omega arith),
      ne_eqb n 2 (λ e. omega arith),
      ne_eqb n 3 (λ e. omega arith),
      ne_eqb n 4 (λ e. omega arith),
      ne_eqb n 5 (λ e. omega arith),
      ← c.expect_that.ensures,
    )
    c.read_backed-in_default.ensures
