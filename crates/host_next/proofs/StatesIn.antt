-- States in bytes, as the code reads them.
--     whole_is                         bytes are a value exactly when they are its layout and it is within the limits
--     registry-is                      the same of a registry state
--     read_none, read_some             bytes that are found to be no registry state, and ones that are found to be one
--     id-place, issuer-place           where the first two primitives of a state stand
--     registry-none, registry-some     bytes that the code finds to be no registry state, and ones that it finds to be one
use Prim.Native.Nat.{ℕ, ◌+◌}
use mathlib.Core.Path.{◌≡◌, refl, ap, subst, sym, ◌∙◌}
use mathlib.Core.Bool.{Bool, true, false, cond, ◌&&◌}
use mathlib.Core.List.{List}
use mathlib.Core.Logic.{◌↔◌}
use mathlib.Core.Option.{none, some}
use native.Mathlib.Omega.{arith}
use lib.Dec.{eqb}
use lib.ListN.{length}
use Rattle.laws.specs.Number.{Bytes}
use Rattle.laws.proofs.Tests.{and_left, and_right}
use Rattle.cesr.specs.declared.Matter.{Matter}
use Rattle.cesr.specs.declared.Said.{Said}
use Rattle.cesr.specs.Primitives.{read_matter, matter_bytes}
use Rattle.cesr.proofs.Matters.{length-matter}
use Rattle.codec_cursor.specs.declared.Cursor.{Cursor}
use Rattle.codec_cursor.specs.Readers.{Reader, viewed, starting, placed, read_if, read_said, read_identifier}
use Rattle.codec_cursor.specs.declared.Read.{Read}
use Rattle.codec.specs.Layout.{said_bytes, good_said, good_identifier}
use Rattle.codec_laws.proofs.Stands.{Stands, stands-first, stands-rest, whole-stands}
use Rattle.codec_laws.proofs.Codes.{Codes, codes-said, codes-identifier}
use Rattle.codec_laws.proofs.CodesRound.{whole-sound, whole-complete}
use Rattle.registry_state.specs.States.{Registry, view_registry, registry_bytes, good_registry, read_registry, well_registry}
use Rattle.registry_state.specs.declared.RegistryState.{RegistryState}
use Rattle.registry_state.proofs.CodesState.{codes-registry}
use Rattle.host_next.specs.ByteFolds.{whole_of, registry_in}

-- a state that was found is the one that was read
found : {A : Type 0} (t : Bool) (y x : A) → cond t (some y) none ≡ some x → (t ≡ true) × (y ≡ x)
found true y x e = (refl, (cc))
found false y x e = absurd (let z : ◌≡◌ {A = ℕ} 0 1 = cc in omega arith)

module _ {A : Type 0} {p : Reader A} {bytes : A → List ℕ} {good : A → Bool} (k : Codes p bytes good) (s : List ℕ) (x : A) (b : Bytes s) where
  pub whole_is : (whole_of s (p s starting) ≡ some x) ↔ ((s ≡ bytes x) × (good x ≡ true))
  whole_is = (λ e. sound e, λ h. let w = whole-complete k s x h.0 h.1 in rw (w.0, w.1))
    where
      sound : whole_of s (p s starting) ≡ some x → (s ≡ bytes x) × (good x ≡ true)
      sound e =
          let r = p s starting in
          let d = found (r.next.ok && eqb r.next.at (length s)) r.value x e in
          let w = whole-sound k s b d.0 in
          (w.0 ∙ ap bytes d.1, ap good (sym d.1) ∙ w.1)

pub registry-is : (s : List ℕ) (g : Registry) → Bytes s → (registry_in s ≡ some g) ↔ ((s ≡ registry_bytes g) × (good_registry g ≡ true))
unfolding registry_in
registry-is s g b = whole_is codes-registry s g b

-- the same of a state that was read in any form
module _ (s : List ℕ) (c : Cursor) (t : Bool) (b : c ≡ starting) (r : Read Registry) (e : r ≡ read_registry s c) (f : t ≡ (r.next.ok && eqb r.next.at (length s))) where
  pub read_none : t ≡ false → registry_in s ≡ none
  unfolding registry_in
  read_none h = rw (← b, ← e, ← f, h)

  pub read_some : t ≡ true → registry_in s ≡ some r.value
  unfolding registry_in
  read_some h = rw (← b, ← e, ← f, h)

-- the first primitive of a state, and the rest of it
module _ (s : List ℕ) (g : Registry) (b : Bytes s) (e : registry_in s ≡ some g) where
  stands : Stands s 0 (registry_bytes g)
  stands = rw ((registry-is s g b).0 e).0 (whole-stands (registry_bytes g))

  pub id-place : read_matter s 0 ≡ g.id.0
  unfolding registry_bytes good_registry read_said read_if
  id-place =
      let w = (registry-is s g b).0 e in
      let r = codes-said.complete s starting g.id refl (stands-first s 0 (said_bytes g.id) _ stands) (and_left (good_said g.id) _ w.1) in
      ap (λ (x : Read Said). x.value.0) r

  pub issuer-place : read_matter s 33 ≡ g.issuer
  unfolding registry_bytes good_registry read_identifier read_if
  issuer-place =
      let w = (registry-is s g b).0 e in
      let rest = stands-rest s 0 (said_bytes g.id) _ stands in
      let place : 0 + length (said_bytes g.id) ≡ 33 = omega (arith, length-matter g.id.0) in
      let at : Stands s 33 (matter_bytes g.issuer) = subst (λ (k : ℕ). Stands s k (matter_bytes g.issuer)) place (stands-first s (0 + length (said_bytes g.id)) (matter_bytes g.issuer) _ rest) in
      let good = and_left (good_identifier g.issuer) _ (and_right (good_said g.id) _ w.1) in
      ap (λ (x : Read Matter). x.value) (codes-identifier.complete s (placed 33) g.issuer refl at good)

module _ (s : List ℕ) (c : Cursor) (t : Bool) (b : c ≡ starting) (r : Read RegistryState) (e : viewed view_registry r ≡ read_registry s c) (f : t ≡ (r.next.ok && eqb r.next.at (length s))) where
  pub registry-none : t ≡ false → registry_in s ≡ none
  unfolding registry_in
  registry-none h = rw (← b, ← e, ← f, h)

  pub registry-some : t ≡ true → (r.next.ok ≡ true → well_registry r.value ≡ true) → (registry_in s ≡ some (view_registry r.value)) × (well_registry r.value ≡ true)
  unfolding registry_in
  registry-some h w = (rw (← b, ← e, ← f, h), w (and_left _ _ (sym f ∙ h)))
