-- Readers and layouts agree, for the input of `status`.
--     decodes-status     bytes are accepted as an input exactly when they are its layout and it is within the limits
use Prim.Native.Nat.{ℕ, ◌+◌, ◌<◌}
use mathlib.Core.Path.{◌≡◌, refl, ap, sym, ◌∙◌}
use mathlib.Core.List.{List, [], ◌∷◌}
use mathlib.Core.Bool.{Bool, true, false, cond, ◌&&◌, ◌||◌}
use mathlib.Core.Logic.{◌↔◌}
use borrow.Author.Tests.{eqb-true}
use lib.Dec.{eqb, lit<}
use lib.ListN.{length}
use Rattle.std.proofs.Common.{Some}
use Rattle.std.proofs.lemmas.Option.{cond_some}
use Rattle.laws.specs.Number.{Bytes}
use Rattle.cesr.specs.Primitives.{matter_bytes}
use Rattle.cesr.specs.declared.Matter.{Matter}
use Rattle.cesr.specs.declared.Said.{Said}
use Rattle.codec_cursor.specs.declared.Cursor.{Cursor}
use Rattle.codec_cursor.specs.Readers.{placed, starting, mapped, read_byte, read_said, read_identifier}
use Rattle.codec.specs.Layout.{said_bytes, good_identifier}
use Rattle.codec_laws.proofs.Stands.{Stands, stays}
use Rattle.codec_laws.proofs.Codes.{Told, Codes, led, leads, shift, mapped-is, codes-map, codes-both, codes-said, codes-identifier}
use Rattle.codec_laws.proofs.CodesList.{codes-section}
use Rattle.codec_laws.proofs.CodesPlain.{plain, plain-told}
use Rattle.codec_laws.proofs.CodesRound.{whole-sound, whole-complete}
use Rattle.registry_state.specs.States.{Registry, registry_bytes, good_registry, read_registry}
use Rattle.registry_state_credential.specs.CredentialStates.{credential_bytes, good_credential, read_credential}
use Rattle.registry_status.specs.Statuses.{Status, reference_bytes, status_bytes, good_reference, good_optional, good_status, read_reference, read_registries, read_credentials, read_issuers, status_of, read_status, decode_status}
use Rattle.registry_status.specs.declared.Reference.{Reference}
use Rattle.registry_status.specs.declared.Reference.TheVariants.{Unnamed, Named, Block}
use Rattle.registry_state_credential.specs.declared.CredentialState.{CredentialState}
use Rattle.registry_state.proofs.CodesState.{codes-registry}
use Rattle.registry_state_credential.proofs.CodesCredential.{codes-credential}

-- what stands behind the byte about the registry
abbrev reference_tail : Reference → List ℕ
reference_tail Unnamed = []
reference_tail (Named d) = said_bytes d
reference_tail Block = []

named-told : (s : List ℕ) (d : Cursor) → Bytes s → (mapped Named read_said s d).next.ok ≡ true → Told reference_tail good_reference s d (mapped Named read_said s d)
named-told s d b h = let t = codes-said.sound s d b h in record { ok = t.ok; stands = t.stands; next = t.next; limits = t.limits }

reference-sound : (s : List ℕ) (c : Cursor) → Bytes s → (read_reference s c).next.ok ≡ true → Told reference_bytes good_reference s c (read_reference s c)
unfolding read_reference
reference-sound s c b h = go (eqb (read_byte s c).value 1) refl h
  where
    k : ℕ
    k = (read_byte s c).value

    d : Cursor
    d = (read_byte s c).next

    go : (t : Bool) → eqb k 1 ≡ t → (cond t (mapped Named read_said s d) (plain Unnamed Block k d)).next.ok ≡ true → Told reference_bytes good_reference s c (cond t (mapped Named read_said s d) (plain Unnamed Block k d))
    go true e h = led reference_bytes 1 s c (mapped Named read_said s d) b (eqb-true k 1 e) refl (named-told s d b h)
    go false e h = plain-told Unnamed Block reference_bytes good_reference refl refl refl refl s c b h

plain-reference : (k : ℕ) (x : Reference) → k < 256 → cond (eqb k 2) Block Unnamed ≡ x → eqb k 1 ≡ false → (eqb k 0 || eqb k 2) ≡ true → (s : List ℕ) (c : Cursor) → c.ok ≡ true → Stands s c.at (k ∷ []) → read_reference s c ≡ record { value = x; next = placed (c.at + 1) }
unfolding read_reference
plain-reference k x l e n h s c o st =
    let w = leads k [] s c l o st in
    rw (w.0, n, stays (placed (c.at + 1)) (eqb k 0 || eqb k 2) h, e)

reference-complete : (s : List ℕ) (c : Cursor) (x : Reference) → c.ok ≡ true → Stands s c.at (reference_bytes x) → good_reference x ≡ true → read_reference s c ≡ record { value = x; next = placed (c.at + length (reference_bytes x)) }
unfolding read_reference
reference-complete s c Unnamed o st g = plain-reference 0 Unnamed (lit< tt) refl refl refl s c o st
reference-complete s c (Named d) o st g =
    let w = leads 1 (said_bytes d) s c (lit< tt) o st in
    let e = codes-said.complete s (placed (c.at + 1)) d refl w.1 g in
    rw w.0
    (mapped-is Named read_said s (placed (c.at + 1)) (placed (c.at + 1 + length (said_bytes d))) d e
    ∙ ap (λ (m : ℕ). record { value = Named d; next = placed m }) (shift c.at (length (said_bytes d))))
reference-complete s c Block o st g = plain-reference 2 Block (lit< tt) refl refl refl s c o st

codes-reference : Codes read_reference reference_bytes good_reference
codes-reference = record { sound = reference-sound; complete = reference-complete }

status_parts : Status → Said × (Matter × (Reference × (List Registry × (List CredentialState × List Matter))))
status_parts x = (x.said, (x.issuer, (x.reference, (x.registries, (x.credentials, x.issuers)))))

pub codes-status : Codes read_status status_bytes good_status
unfolding read_status status_bytes good_status good_optional read_registries read_credentials read_issuers status_parts
codes-status =
    codes-map status_of status_parts good_status (λ t h. (refl, h)) (λ x h. (refl, h))
    (codes-both codes-said
    (codes-both codes-identifier
    (codes-both codes-reference
    (codes-both (codes-section read_registry registry_bytes good_registry codes-registry 1 (lit< tt))
    (codes-both (codes-section read_credential credential_bytes good_credential codes-credential 1 (lit< tt)) (codes-section read_identifier matter_bytes good_identifier codes-identifier 1 (lit< tt)))))))

accepts : (s : List ℕ) (a : Status) → Bytes s → decode_status s ≡ Some a → (s ≡ status_bytes a) × (good_status a ≡ true)
unfolding decode_status
accepts s a b e =
    let r = read_status s starting in
    let d = cond_some (r.next.ok && eqb r.next.at (length s)) r.value a e in
    let w = whole-sound codes-status s b d.0 in
    (w.0 ∙ ap status_bytes d.1, ap good_status (sym d.1) ∙ w.1)

decodes-back : (s : List ℕ) (a : Status) → s ≡ status_bytes a → good_status a ≡ true → decode_status s ≡ Some a
unfolding decode_status
decodes-back s a e g = let w = whole-complete codes-status s a e g in rw (w.0, w.1)

-- bytes are accepted as an input exactly when they are its layout and it is within the limits
pub decodes-status : (s : List ℕ) (a : Status) → Bytes s → (decode_status s ≡ Some a) ↔ ((s ≡ status_bytes a) × (good_status a ≡ true))
decodes-status s a b = (λ e. accepts s a b e, λ h. decodes-back s a h.0 h.1)
