-- Identifiers (docs/RULES.md, "Identifiers and seals").
use Rattle.std.specs.Prelude.{ℕ, cond}
use Rattle.cesr.specs.declared.Matter.{Matter}
use Rattle.cesr.specs.Primitives.{is_basic}
use Rattle.events_seal.specs.declared.Identifier.{Identifier}
use Rattle.events_seal.specs.declared.Identifier.TheVariants.{Basic, SelfAddressing}

-- the primitive that an identifier is
abbrev pub matter_of : Identifier → Matter
matter_of (Basic p) = p.0
matter_of (SelfAddressing d) = d.0

-- the identifier that a primitive is, by its letter
unfoldable pub identifier_of : Matter → Identifier
identifier_of m = cond (is_basic m) (Basic (record { 0 = m })) (SelfAddressing (record { 0 = m }))

-- its code letter, which tells the two apart in bytes
abbrev pub letter_of : Identifier → ℕ
letter_of i = (matter_of i).code
