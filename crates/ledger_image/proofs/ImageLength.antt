-- How many bytes an image has.
--     length-wide     a section: two for its count, and those of its elements
--     length-image    an image: four for its counts, those of its registries, and 115 for each row
--     image-fits      at most 39,956
use Prim.Native.Nat.{ℕ, ◌+◌, ◌*◌, ◌≤◌}
use mathlib.Core.Path.{◌≡◌, refl, ap, sym, ◌∙◌}
use mathlib.Core.List.{List, [], ◌∷◌}
use mathlib.Core.Bool.{Bool, true, ◌&&◌}
use native.Mathlib.Nat.{mul-suc, mul-zero}
use native.Mathlib.Omega.{arith}
use borrow.Author.Tests.{leb-true}
use lib.Dec.{leb}
use lib.ListN.{length, length-append}
use Rattle.laws.proofs.Number.{length_digits}
use Rattle.laws.proofs.Tests.{and_left, and_right}
use Rattle.codec.specs.Events.{is_config}
use Rattle.codec.specs.Layout.{joined, all, good_said, good_identifier, good_sn, good_toad, good_configs, good_prefixes}
use Rattle.registry_state.specs.States.{Registry, registry_bytes, good_registry}
use Rattle.registry_state_credential.specs.CredentialStates.{credential_bytes}
use Rattle.registry_state_credential.specs.declared.CredentialState.{CredentialState}
use Rattle.registry_state.proofs.StateLoops.{length-registry}
use Rattle.registry_state_credential.proofs.CodesCredential.{length-credential}
use Rattle.ledger_image.specs.Images.{wide_bytes, registry_section, credential_section, image_bytes, good_registries, good_credentials, good_image, summed, registry_size}

module _ {A : Type 0} (f : A → List ℕ) (size : A → ℕ) (each : (x : A) → length (f x) ≡ size x) where
  length-joined : (l : List A) → length (joined f l) ≡ summed size l
  unfolding joined summed
  length-joined [] = refl
  length-joined (x ∷ l) = rw (length-append, each x, length-joined l)

  pub length-wide : (l : List A) → length (wide_bytes f l) ≡ 2 + summed size l
  unfolding wide_bytes
  length-wide l = rw (length-append, length_digits, length-joined l)

-- elements of one size
summed-alike : {A : Type 0} (n : ℕ) (l : List A) → summed (λ (x : A). n) l ≡ n * length l
unfolding summed
summed-alike n [] = sym (mul-zero n)
summed-alike n (x ∷ l) = rw (summed-alike n l, mul-suc n (length l)) (omega arith)

-- An image has two bytes for each count, the bytes of its registries, and 115 for each row.
pub length-image : (gs : List Registry) (ws : List CredentialState) → length (image_bytes gs ws) ≡ 4 + summed registry_size gs + 115 * length ws
unfolding image_bytes registry_section credential_section
length-image gs ws =
    let a = length-wide registry_bytes registry_size length-registry gs in
    let b : length (wide_bytes credential_bytes ws) ≡ 2 + 115 * length ws = length-wide credential_bytes (λ w. 115) length-credential ws ∙ ap (λ (n : ℕ). 2 + n) (summed-alike 115 ws) in
    rw (length-append, a, b) (omega arith)

-- elements that have at most m bytes each
summed-fits : {A : Type 0} (size : A → ℕ) (m : ℕ) (test : A → Bool) → ((x : A) → test x ≡ true → size x ≤ m) → (l : List A) → all test l ≡ true → summed size l ≤ m * length l
unfolding all summed
summed-fits size m test each [] h = rw (mul-zero m) (omega arith)
summed-fits size m test each (x ∷ l) h =
    let a = each x (and_left (test x) (all test l) h) in
    let b = summed-fits size m test each l (and_right (test x) (all test l) h) in
    rw (mul-suc m (length l)) (omega (arith, a, b))

registry-fits : (g : Registry) → good_registry g ≡ true → registry_size g ≤ 657
unfolding good_registry good_configs good_prefixes
registry-fits g h =
    let h1 = and_right (good_said g.id) _ h in
    let h2 = and_right (good_identifier g.issuer) _ h1 in
    let h3 = and_right (good_sn g.sn) _ h2 in
    let h4 = and_right (good_said g.latest) _ h3 in
    let h5 = and_right (good_toad g.toad) _ h4 in
    let few-configs = leb (length g.configs) 8 in
    let few-backers = leb (length g.backers) 16 in
    let a = leb-true (length g.configs) 8 (and_left few-configs _ (and_left (few-configs && all is_config g.configs) _ h5)) in
    let b = leb-true (length g.backers) 16 (and_left few-backers _ (and_right (few-configs && all is_config g.configs) _ h5)) in
    omega (arith, a, b)

-- An image of states within the limits has at most 39,956 bytes.
pub image-fits : (gs : List Registry) (ws : List CredentialState) → good_image gs ws ≡ true → length (image_bytes gs ws) ≤ 39956
unfolding good_image good_registries good_credentials
image-fits gs ws h =
    let few-registries = leb (length gs) 16 in
    let p = and_left (few-registries && all good_registry gs) _ h in
    let q = and_right (few-registries && all good_registry gs) _ h in
    let a = leb-true (length gs) 16 (and_left few-registries _ p) in
    let b = leb-true (length ws) 256 (and_left (leb (length ws) 256) _ q) in
    let c = summed-fits registry_size 657 good_registry registry-fits gs (and_right few-registries _ p) in
    rw (length-image gs ws) (omega (arith, a, b, c))
