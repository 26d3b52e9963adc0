-- The round trips of an image.
--     image-back       the image of a sound ledger reads back as that ledger
--     image-again      an image that is read writes again to the same bytes
--     states-again     the ledger that holds these states holds these states
--     registries-good, rows-good   states that code holds are within the limits where they are well-formed
use Prim.Native.Nat.{ℕ, ◌≤◌}
use mathlib.Core.Path.{◌≡◌, refl, ap, sym, ◌∙◌}
use mathlib.Core.List.{List, [], ◌∷◌, map}
use mathlib.Core.Bool.{Bool, true, ◌&&◌}
use borrow.Author.Tests.{eqb-true, le-leb}
use lib.Dec.{leb}
use lib.ListN.{length, length-map}
use Rattle.laws.specs.Number.{Bytes}
use Rattle.laws.proofs.Tests.{and_left, and_right}
use Rattle.codec.specs.Layout.{all}
use Rattle.codec_laws.proofs.Codes.{and-true}
use Rattle.registry_state.specs.States.{Registry, good_registry, view_registry, well_registry, ranged_registry}
use Rattle.registry_state_credential.specs.CredentialStates.{good_credential, well_credential, ranged_credential}
use Rattle.registry_state.specs.declared.RegistryState.{RegistryState}
use Rattle.registry_state_credential.specs.declared.CredentialState.{CredentialState}
use Rattle.registry_state.proofs.CodesState.{registry-good}
use Rattle.registry_state_credential.proofs.CodesCredential.{credential-good}
use Rattle.ledger_step.specs.Ledgers.{Held, Ledger, held_of, keeps_layout, sound}
use Rattle.ledger_step.specs.Steps.{held_now}
use Rattle.ledger_step.proofs.Rules.{Keeps, parts}
use Rattle.ledger_image.specs.Images.{image_bytes, good_registries, good_credentials, good_image, ledger_of, state_of, states_of, ledger_bytes, Ranged, image_of}
use Rattle.ledger_image.specs.Images.ImageAnswer.{held}
use Rattle.ledger_image.proofs.CodesImage.{image-read, image-written}

pub states-again : (gs : List Registry) → map state_of (map held_now gs) ≡ gs
states-again [] = refl
states-again (g ∷ gs) = ap (λ l. g ∷ l) (states-again gs)

-- registries that keep to their layout are held again as they were
held-again : (gs : List Held) → all keeps_layout gs ≡ true → map held_now (map state_of gs) ≡ gs
unfolding all
held-again [] h = refl
held-again (g ∷ gs) h =
    let e = and_left g.well (all keeps_layout gs) h in
    let r = held-again gs (and_right g.well (all keeps_layout gs) h) in
    λ i. record { well = sym e i; state = g.state } ∷ r i

same-ledger : (l : Ledger) → Keeps l → Ranged l → ledger_of (states_of l) l.rows ≡ l
unfolding ledger_of
same-ledger l k r =
    let n : length (states_of l) ≡ l.registry_count = length-map l.registries state_of ∙ sym r.registries-counted in
    let g = held-again l.registries k.layouts in
    let a : 16 ≡ l.registry_slots = sym (eqb-true l.registry_slots 16 k.registry-slots) in
    let b : 256 ≡ l.row_slots = sym (eqb-true l.row_slots 256 k.row-slots) in
    let m : length l.rows ≡ l.row_count = sym r.rows-counted in
    λ i. record { registry_slots = a i; registry_count = n i; registries = g i; row_slots = b i; row_count = m i; rows = l.rows }

-- counts that are within the limits
few : {A : Type 0} (l : List A) (n limit : ℕ) → length l ≡ n → n ≤ limit → leb (length l) limit ≡ true
few l n limit e h = ap (λ (m : ℕ). leb m limit) e ∙ le-leb n limit h

-- The image of a sound ledger whose states are within their ranges is read, and what is read is that ledger.
pub image-back : (l : Ledger) → sound l ≡ true → Ranged l → (image_of (ledger_bytes l) ≡ held (states_of l) l.rows) × (ledger_of (states_of l) l.rows ≡ l)
unfolding good_image good_registries good_credentials
image-back l h r =
    let k = parts l h in
    let e = same-ledger l k r in
    let gs = states_of l in
    let ws = l.rows in
    let a = few gs l.registry_count 16 (length-map l.registries state_of ∙ sym r.registries-counted) k.few-registries in
    let b = few ws l.row_count 256 (sym r.rows-counted) k.few-rows in
    let g : good_image gs ws ≡ true =
    and-true _ _ (and-true (leb (length gs) 16) (all good_registry gs) a r.registries-good) (and-true (leb (length ws) 256) (all good_credential ws) b r.rows-good) in
    (image-written (ledger_bytes l) gs ws refl g (ap sound e ∙ h), e)

-- An image that is read writes again to the same bytes.
pub image-again : (s : List ℕ) (gs : List Registry) (ws : List CredentialState) → Bytes s → image_of s ≡ held gs ws → ledger_bytes (ledger_of gs ws) ≡ s
unfolding ledger_of
image-again s gs ws b e = ap (λ (hs : List Registry). image_bytes hs ws) (states-again gs) ∙ sym ((image-read s gs ws b).0 e).0

-- a test of what the elements stand for
all-mapped : {A B : Type 0} (v : A → B) (f : B → Bool) (l : List A) → all f (map v l) ≡ all (λ x. f (v x)) l
unfolding all
all-mapped v f [] = refl
all-mapped v f (x ∷ l) = ap (λ (t : Bool). f (v x) && t) (all-mapped v f l)

-- what two tests say of each element, a third says too
both_say : {A : Type 0} (f g h : A → Bool) → ((x : A) → f x ≡ true → g x ≡ true → h x ≡ true) → (l : List A) → all f l ≡ true → all g l ≡ true → all h l ≡ true
unfolding all
both_say f g h say [] p q = refl
both_say f g h say (x ∷ l) p q =
    and-true (h x) (all h l) (say x (and_left (f x) (all f l) p) (and_left (g x) (all g l) q)) (both_say f g h say l (and_right (f x) (all f l) p) (and_right (g x) (all g l) q))

-- States that code holds are within the limits where they keep to their layout.
pub registries-good : (gs : List RegistryState) → all keeps_layout (map held_of gs) ≡ true → all ranged_registry gs ≡ true → all good_registry (map state_of (map held_of gs)) ≡ true
registries-good gs h r =
    all-mapped state_of good_registry (map held_of gs)
    ∙ all-mapped held_of (λ x. good_registry (state_of x)) gs
    ∙ both_say well_registry ranged_registry (λ g. good_registry (view_registry g)) registry-good gs (sym (all-mapped held_of keeps_layout gs) ∙ h) r

pub rows-good : (ws : List CredentialState) → all well_credential ws ≡ true → all ranged_credential ws ≡ true → all good_credential ws ≡ true
rows-good ws h r = both_say well_credential ranged_credential good_credential credential-good ws h r
