use Rattle.codec_cursor.specs.Readers.{read_if, read_said}
use Rattle.codec_tel_registry.specs.Events.{read_bis, read_brv}
use Rattle.codec_tel.proofs.tel.read_backed.Goals as goal

pub returns-then-issues : goal.returns-then-issues
unfolding read_bis read_said read_if
returns-then-issues c =
    let e = c.blank-value.ensures in
    rw (
      c.if-issues.true,
      ← c.count-said.ensures,
      ← c.pass_said-credential.ensures,
      ← c.pass_said-third.ensures,
      ← c.pass_said.ensures,
      ← c.pass_empty.ensures,
      ← c.count.ensures,
      ← c.read_seal-own.ensures,
      e.0,
      e.1,
      e.2,
    )

pub returns : goal.returns
unfolding read_brv read_said read_if
returns c =
    let e = c.blank-value-2.ensures in
    rw (
      c.if-issues.false,
      ← c.count-said.ensures,
      ← c.pass_said-credential.ensures,
      ← c.pass_said-third.ensures,
      ← c.pass_said.ensures,
      ← c.pass_empty.ensures,
      ← c.count.ensures,
      ← c.read_seal-own.ensures,
      e.0,
      e.1,
      e.2,
    )
