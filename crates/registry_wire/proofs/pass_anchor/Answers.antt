use Rattle.codec_cursor.specs.Readers.{read_number}
use Rattle.registry_wire.specs.Attempts.{read_anchor, read_seals}
use Rattle.registry_wire.proofs.pass_anchor.Goals as goal

pub returns : goal.returns
unfolding read_anchor read_seals read_number
returns c =
    rw (c.pass_seals.ensures, c.pass_said.ensures, c.advance-said.ensures, c.pass_identifier-sn.ensures)
