-- Laws of identifiers: a primitive becomes an identifier and back without a change.
use mathlib.Core.Path.{◌≡◌, refl}
use mathlib.Core.Bool.{Bool, true, false, cond}
use Rattle.cesr.specs.declared.Matter.{Matter}
use Rattle.cesr.specs.Primitives.{is_basic}
use Rattle.events_seal.specs.declared.Identifier.TheVariants.{Basic, SelfAddressing}
use Rattle.events_seal.specs.Identifiers.{matter_of, identifier_of}

pub matter-identifier : (m : Matter) → matter_of (identifier_of m) ≡ m
unfolding identifier_of
matter-identifier m = go (is_basic m)
  where
    go : (b : Bool) → matter_of (cond b (Basic (record { 0 = m })) (SelfAddressing (record { 0 = m }))) ≡ m
    go true = refl
    go false = refl

-- a basic identifier has a basic letter, and so its primitive gives it back
pub identifier-basic : (m : Matter) → is_basic m ≡ true → identifier_of m ≡ Basic (record { 0 = m })
unfolding identifier_of
identifier-basic m e = rw e

pub identifier-said : (m : Matter) → is_basic m ≡ false → identifier_of m ≡ SelfAddressing (record { 0 = m })
unfolding identifier_of
identifier-said m e = rw e
