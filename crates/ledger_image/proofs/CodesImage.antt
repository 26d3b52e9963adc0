-- Readers and layouts agree, for an image.
--     codes-registries, codes-credentials   its sections
--     codes-image    what is read is exactly what the layout writes, within the limits
--     image-read     bytes are read as a ledger exactly when they are its image, it is within the limits, and it is sound
use Prim.Native.Nat.{ℕ}
use mathlib.Core.Path.{◌≡◌, refl}
use mathlib.Core.Logic.{◌↔◌}
use mathlib.Core.List.{List}
use mathlib.Core.Bool.{Bool, true, false, cond, ◌&&◌}
use native.Mathlib.Omega.{arith}
use lib.Dec.{eqb, lit<}
use lib.ListN.{length}
use Rattle.laws.specs.Number.{Bytes}
use Rattle.laws.proofs.Tests.{and_left, and_right}
use Rattle.codec_cursor.specs.Readers.{starting}
use Rattle.codec_laws.proofs.Codes.{Codes, codes-both}
use Rattle.codec_laws.proofs.CodesRound.{whole-sound, whole-complete}
use Rattle.registry_state.specs.States.{Registry, registry_bytes, good_registry, read_registry}
use Rattle.registry_state_credential.specs.CredentialStates.{credential_bytes, good_credential, read_credential}
use Rattle.registry_state_credential.specs.declared.CredentialState.{CredentialState}
use Rattle.registry_state.proofs.CodesState.{codes-registry}
use Rattle.registry_state_credential.proofs.CodesCredential.{codes-credential}
use Rattle.ledger_step.specs.Ledgers.{sound}
use Rattle.ledger_image.specs.Images.{registry_section, credential_section, image_bytes, good_registries, good_credentials, good_image, read_registries, read_credentials, read_image, ledger_of, image_of}
use Rattle.ledger_image.specs.Images.ImageAnswer.{refused, held}
use Rattle.ledger_image.proofs.CodesWide.{codes-wide}

pub codes-registries : Codes read_registries registry_section good_registries
unfolding read_registries registry_section good_registries
codes-registries = codes-wide read_registry registry_bytes good_registry codes-registry 16 (lit< tt)

pub codes-credentials : Codes read_credentials credential_section good_credentials
unfolding read_credentials credential_section good_credentials
codes-credentials = codes-wide read_credential credential_bytes good_credential codes-credential 256 (lit< tt)

-- The reader of an image reads exactly what the layout writes, within the limits.
pub codes-image : Codes read_image (λ t. image_bytes t.0 t.1) (λ t. good_image t.0 t.1)
unfolding read_image image_bytes good_image
codes-image = codes-both codes-registries codes-credentials

-- an image that is not refused passed the tests, and holds what was read
held-only : (t : Bool) (gs hs : List Registry) (ws vs : List CredentialState) → cond t (held gs ws) refused ≡ held hs vs → (t ≡ true) × ((gs ≡ hs) × (ws ≡ vs))
held-only true gs hs ws vs e = (refl, (cc, cc))
held-only false gs hs ws vs e = absurd (let z : ◌≡◌ {A = ℕ} 0 1 = cc in omega arith)

accepts : (s : List ℕ) (gs : List Registry) (ws : List CredentialState) → Bytes s → image_of s ≡ held gs ws → (s ≡ image_bytes gs ws) × ((good_image gs ws ≡ true) × (sound (ledger_of gs ws) ≡ true))
unfolding image_of
accepts s gs ws b e =
    let r = read_image s starting in
    let whole = r.next.ok && eqb r.next.at (length s) in
    let rules = sound (ledger_of r.value.0 r.value.1) in
    let d = held-only (whole && rules) r.value.0 gs r.value.1 ws e in
    let w = whole-sound codes-image s b (and_left whole rules d.0) in
    (rw (d.1.0, d.1.1) at w.0, (rw (d.1.0, d.1.1) at w.1, rw (d.1.0, d.1.1) at (and_right whole rules d.0)))

pub image-written : (s : List ℕ) (gs : List Registry) (ws : List CredentialState) → s ≡ image_bytes gs ws → good_image gs ws ≡ true → sound (ledger_of gs ws) ≡ true → image_of s ≡ held gs ws
unfolding image_of
image-written s gs ws e g h = let w = whole-complete codes-image s (gs, ws) e g in rw (w.0, w.1, h)

-- Bytes are read as these registries and rows exactly when they are their image, the states are within the limits, and the ledger is sound.
pub image-read : (s : List ℕ) (gs : List Registry) (ws : List CredentialState) → Bytes s → (image_of s ≡ held gs ws) ↔ ((s ≡ image_bytes gs ws) × ((good_image gs ws ≡ true) × (sound (ledger_of gs ws) ≡ true)))
image-read s gs ws b = (λ e. accepts s gs ws b e, λ h. image-written s gs ws h.0 h.1.0 h.1.1)
