use borrow.Author.Tests.{eq-eqb, ne_eqb}
use Rattle.codec.specs.Readers.{read_number, read_byte_if}
use Rattle.codec.specs.Events.{read_seal, read_event_seal, read_other_seal}
use Rattle.codec_seal.proofs.seal.pass_seal.Goals as goal

pub returns-then-kind-eq4 : goal.returns-then-kind-eq4
unfolding read_seal read_event_seal read_number
returns-then-kind-eq4 c =
    rw (← c.byte-k.ensures, eq-eqb c.byte-k.result.value 4 c.if-kind-eq4.true, c.pass_said.ensures, c.advance.ensures, c.pass_identifier.ensures)

pub returns : goal.returns
unfolding read_seal read_other_seal read_byte_if
returns c =
    rw (← c.byte-k.ensures, ne_eqb c.byte-k.result.value 4 c.if-kind-eq4.false, c.expect_that.ensures, c.is_seal_kind.ensures)
