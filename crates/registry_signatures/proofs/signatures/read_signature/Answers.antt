use Rattle.codec.specs.Readers.{read_byte_if}
use Rattle.registry_signatures.specs.SignatureSections.{read_signature}
use Rattle.registry_signatures.proofs.signatures.read_signature.Goals as goal

pub returns : goal.returns
unfolding read_signature read_byte_if
returns c = rw (c.expect_that-next.ensures, ← c.quad-i.ensures, ← c.byte-v.ensures)
