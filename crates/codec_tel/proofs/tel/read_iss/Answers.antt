use Rattle.codec_cursor.specs.Readers.{read_if, read_said}
use Rattle.codec_tel_registry.specs.Events.{read_iss}
use Rattle.codec_tel.proofs.tel.read_iss.Goals as goal

pub returns : goal.returns
unfolding read_iss read_said read_if
returns c =
    let e = c.blank-value.ensures in
    rw (
      ← c.count-iss.ensures,
      ← c.pass_said-credential.ensures,
      ← c.pass_said-registry.ensures,
      ← c.pass_said.ensures,
      ← c.pass_empty.ensures,
      ← c.count-next.ensures,
      e.0,
      e.1,
    )
