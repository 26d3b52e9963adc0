-- How many bytes a section of registries has, one registry at a time, as a loop goes.
--     registry-few         a registry has at most 657 bytes
--     sized                the bytes of the first i registries, behind the two of the count
--     sized-none, sized-more, sized-all   none, one more, and all of them
use Prim.Native.Nat.{ℕ, suc, ◌+◌, ◌<◌, ◌≤◌, min}
use mathlib.Core.Path.{◌≡◌, refl, ap, sym, ◌∙◌}
use mathlib.Core.List.{List, [], ◌∷◌, ◌++◌, map, map-append}
use native.Mathlib.Omega.{arith}
use lib.ListN.{length, get_or, take, length-append, length-map, length-take}
use lib.Seq.{take-suc}
use Rattle.laws.specs.Number.{digits}
use Rattle.laws.proofs.Number.{length_digits}
use Rattle.laws.proofs.Views.{take_counted}
use Rattle.events.proofs.MemberLaws.{view-size as backers-size}
use Rattle.events_tel.proofs.ConfigLaws.{view-size as configs-size}
use Rattle.codec.specs.Layout.{joined}
use Rattle.codec_laws.proofs.CodesList.{joined_snoc}
use Rattle.registry_state.specs.States.{view_registry, registry_bytes, no_said, no_sn}
use Rattle.registry_state.specs.declared.RegistryState.{RegistryState}
use Rattle.registry_state.proofs.StateLoops.{length-registry}
use Rattle.cesr.specs.Primitives.{none}
use Rattle.ledger_image.specs.Images.{wide_bytes, registry_section}
use Rattle.ledger_sections.specs.RegistrySections.{section_of}

pub registry-few : (g : RegistryState) → length g.configs.codes ≡ 8 → length g.backers.items ≡ 16 → length (registry_bytes (view_registry g)) ≤ 657
registry-few g c b = omega (arith, length-registry (view_registry g), configs-size g.configs c, backers-size g.backers b)

-- what an element past the end is taken for: no function reaches it
abbrev pub blank : RegistryState
blank =
    record
    { id = no_said; issuer = none; sn = no_sn; latest = no_said; toad = record { 0 = 0 }; configs = record { codes = []; count = 0 }; backers = record { items = []; count = 0 } }

module _ (ys : List RegistryState) where
  -- the bytes of the first i
  unfoldable pub bytes_of : ℕ → List ℕ
  bytes_of i = joined registry_bytes (map view_registry (take i ys))

  pub bytes-none : bytes_of 0 ≡ []
  unfolding bytes_of joined
  bytes-none = refl

  pub bytes-more : (i : ℕ) → i < length ys → bytes_of (suc i) ≡ bytes_of i ++ registry_bytes (view_registry (get_or ys i blank))
  unfolding bytes_of
  bytes-more i l =
      ap (λ (zs : List RegistryState). joined registry_bytes (map view_registry zs)) (take-suc ys i blank l)
      ∙ ap (joined registry_bytes) (map-append view_registry (take i ys) (get_or ys i blank ∷ []))
      ∙ joined_snoc registry_bytes (map view_registry (take i ys)) (view_registry (get_or ys i blank))

  unfoldable pub sized : ℕ → ℕ
  sized i = 2 + length (bytes_of i)

  pub sized-none : sized 0 ≡ 2
  unfolding sized
  sized-none = rw bytes-none

  pub sized-more : (i : ℕ) → i < length ys → sized i + length (registry_bytes (view_registry (get_or ys i blank))) ≡ sized (suc i)
  unfolding sized
  sized-more i l = rw (bytes-more i l, length-append) (omega arith)

  -- how many registries the section has
  abbrev pub used : ℕ → ℕ
  used count = min (min count 16) (length ys)

  pub section-of : (count : ℕ) → section_of ys count ≡ digits 2 (used count) ++ bytes_of (used count)
  unfolding section_of registry_section wide_bytes bytes_of
  section-of count =
      let e : take (used count) ys ≡ take (min count 16) ys = ap (λ (k : ℕ). take k ys) (sym (length-take (min count 16) ys)) ∙ take_counted (min count 16) ys in
      let f : length (map view_registry (take (min count 16) ys)) ≡ used count = length-map (take (min count 16) ys) view_registry ∙ length-take (min count 16) ys in
      rw (f, e)

  pub sized-all : (count : ℕ) → sized (used count) ≡ length (section_of ys count)
  unfolding sized
  sized-all count = rw (section-of count, length-append, length_digits)
