use Rattle.codec_cursor.specs.Readers.{read_if, read_said}
use Rattle.codec_tel_registry.specs.Events.{read_rev}
use Rattle.codec_tel.proofs.tel.read_rev.Goals as goal

pub returns : goal.returns
unfolding read_rev read_said read_if
returns c =
    let e = c.blank-value.ensures in
    rw (
      ← c.count-rev.ensures,
      ← c.pass_said-credential.ensures,
      ← c.pass_said-registry.ensures,
      ← c.pass_said-prior.ensures,
      ← c.pass_said.ensures,
      ← c.pass_empty.ensures,
      ← c.count-next.ensures,
      e.0,
      e.1,
    )
