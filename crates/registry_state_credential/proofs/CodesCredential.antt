-- Laws of the state of a credential, whose reader and layout agree.
--     codes-credential     what is read is exactly what the layout writes, within the limits
--     credential-back      a state that was written is read
--     credential-again     a state that was read writes the same bytes
--     credential-good      a state that is handed in and well-formed is within the limits of the layout
--     credential-head      the parts that a state is written in
--     length-credential    it has 115 bytes
use Prim.Native.Nat.{ℕ, ◌+◌, ◌≤◌}
use mathlib.Core.Path.{◌≡◌, refl, ap, ◌∙◌}
use mathlib.Core.List.{List}
use mathlib.Core.Bool.{true}
use lib.ListN.{length}
use Rattle.laws.specs.Number.{Bytes}
use Rattle.laws.specs.Room.{put}
use Rattle.laws.proofs.Tests.{and_left, and_right}
use Rattle.cesr.specs.Primitives.{is_said}
use Rattle.cesr.specs.declared.Said.{Said}
use Rattle.cesr_sn.specs.declared.Sn.{Sn}
use Rattle.codec_cursor.specs.Readers.{placed}
use Rattle.codec_laws.specs.Layout.{is_matter, good_said, good_sn}
use Rattle.codec_laws.proofs.CodesRound.{codes-back, codes-again}
use Rattle.codec_laws.proofs.Codes.{Codes, and-true, codes-map, codes-both, codes-sn, codes-said}
use Rattle.registry_head.specs.HeadBytes.{head_bytes}
use Rattle.registry_head.proofs.HeadWrites.{length-head}
use Rattle.registry_state_credential.specs.CredentialStates.{credential_bytes, good_credential, credential_of, read_credential, well_credential, ranged_credential}
use Rattle.registry_state_credential.specs.declared.CredentialState.{CredentialState}

credential_parts : CredentialState → Said × (Said × (Sn × Said))
credential_parts w = (w.registry, (w.credential, (w.sn, w.head)))

pub codes-credential : Codes read_credential credential_bytes good_credential
unfolding read_credential credential_bytes good_credential credential_parts
codes-credential =
    codes-map credential_of credential_parts good_credential (λ t h. (refl, h)) (λ w h. (refl, h))
    (codes-both codes-said (codes-both codes-said (codes-both codes-sn codes-said)))

pub credential-back : (l : List ℕ) (at : ℕ) (w : CredentialState) → good_credential w ≡ true → at + length (credential_bytes w) ≤ length l → read_credential (put l at (credential_bytes w)) (placed at) ≡ record { value = w; next = placed (at + length (credential_bytes w)) }
credential-back = codes-back codes-credential

pub credential-again : (l : List ℕ) (at : ℕ) → Bytes l → (read_credential l (placed at)).next.ok ≡ true → put l at (credential_bytes (read_credential l (placed at)).value) ≡ l
credential-again = codes-again codes-credential

pub credential-good : (w : CredentialState) → well_credential w ≡ true → ranged_credential w ≡ true → good_credential w ≡ true
unfolding well_credential ranged_credential good_credential good_said
credential-good w h r =
    let h1 = and_right (is_said w.registry.0) _ h in
    let r1 = and_right (is_matter w.registry.0) _ r in
    let r2 = and_right (is_matter w.credential.0) _ r1 in
    and-true _ _ (and-true _ _ (and_left (is_said w.registry.0) _ h) (and_left (is_matter w.registry.0) _ r))
    (and-true _ _ (and-true _ _ (and_left (is_said w.credential.0) _ h1) (and_left (is_matter w.credential.0) _ r1))
    (and-true _ _ (and_left (good_sn w.sn) _ r2) (and-true _ _ (and_right (is_said w.credential.0) _ h1) (and_right (good_sn w.sn) _ r2))))

pub credential-head : (w : CredentialState) → credential_bytes w ≡ head_bytes w.registry.0 w.credential.0 w.sn w.head.0
unfolding credential_bytes head_bytes
credential-head w = refl

pub length-credential : (w : CredentialState) → length (credential_bytes w) ≡ 115
length-credential w = ap length (credential-head w) ∙ length-head w.registry.0 w.credential.0 w.sn w.head.0
