-- The ledger that is held once an image was read, by what `read_image` ensures.
--     read-ledger     where the number is 0 it is the ledger of the image
--     read-refused    where it is not, the one that was handed in
--     read_back       the image of a sound ledger is read as that ledger
--     read_again      an image that was read writes again to the same bytes
use Rattle.std.specs.Prelude.{Result}
use Prim.Native.Nat.{ℕ, ◌+◌, ◌≤◌}
use native.Mathlib.Omega.{arith}
use mathlib.Core.Path.{◌≡◌, refl, ap, ◌∙◌}
use mathlib.Core.Bool.{true}
use mathlib.Core.List.{List, map}
use lib.ListN.{length, take, drop}
use lib.Seq.{sets, length-sets, sets-eq, take_at}
use Rattle.laws.specs.Number.{Bytes}
use Rattle.registry_state.specs.States.{Registry}
use Rattle.registry_state.specs.declared.RegistryState.{RegistryState}
use Rattle.registry_state_credential.specs.declared.CredentialState.{CredentialState}
use Rattle.ledger_registry_image.specs.Ledgers.{Ledger, held_of, lent_ledger, sound}
use Rattle.ledger_registry_image.specs.Steps.{held_now}
use Rattle.ledger_row_image.specs.Images.{ImageAnswer, image_number, ledger_of, ledger_bytes, states_of, Ranged, image_of, image_into}
use Rattle.ledger_row_image.specs.Images.ImageAnswer.{refused, held}
use Rattle.ledger_row_image.proofs.ImageRounds.{image-back, image-again}
use Rattle.ledger_read.specs.declared.ImageRead.{ImageRead}
use Rattle.ledger_image_check.specs.Refusals.{refusal_of}
use Rattle.ledger_image_check.specs.declared.Malformed.{Malformed}
use Rattle.ledger_read.specs.ImageReads.{Counts, counts_of, counts_after, rows_after, Placed, ReadInto}
use Rattle.ledger_read.proofs.ImageStored.{into-held, few-rows}

-- The ledger of an image.
pub record Image (s : List ℕ) (l : Ledger) : Type 0 where
  pub registries : List Registry
  pub rows : List CredentialState
  pub image : image_of s ≡ held registries rows
  pub ledger : l ≡ ledger_of registries rows

-- the stored rows are those of the image
rows-first : (ws ws' : List CredentialState) → length ws' ≤ length ws → take (length ws') (sets ws 0 ws') ≡ ws'
rows-first ws ws' h =
    ap (take (length ws')) (sets-eq ws' ws 0 (omega (arith, h))) ∙ take_at ws' (drop (0 + length ws') ws) (length ws') refl

not-both : (n : ℕ) → n ≡ 0 → n ≡ 1 → ⊥
not-both n a b = omega (arith, a, b)

module _ (s : List ℕ) (gs gs1 : List RegistryState) (ws ws1 : List CredentialState) (m n : ℕ) (r : Result ImageRead Malformed) (h : ReadInto s gs gs1 ws ws1 r) where
  -- what is held afterwards
  abbrev pub after : Ledger
  after = let k = counts_of r m n in lent_ledger gs1 k.registries ws1 k.rows

  abbrev answer : ImageAnswer
  answer = image_into (length gs) (length ws) s

  pub held_after : (gs' : List Registry) (ws' : List CredentialState) → answer ≡ held gs' ws' → after ≡ ledger_of gs' ws'
  unfolding lent_ledger ledger_of
  held_after gs' ws' e =
      let t = into-held (length gs) (length ws) s gs' ws' e in
      let c : counts_of r m n ≡ record { registries = length gs'; rows = length ws' } = h.counts m n ∙ ap (λ (a : ImageAnswer). counts_after a m n) e in
      let i : (counts_of r m n).registries ≡ length gs' = ap (λ (k : Counts). k.registries) c in
      let j : (counts_of r m n).rows ≡ length ws' = ap (λ (k : Counts). k.rows) c in
      let p : Placed gs' gs gs1 = rw e at h.registries in
      let w : ws1 ≡ sets ws 0 ws' = h.rows ∙ ap (λ (a : ImageAnswer). rows_after a ws) e in
      let slots : length gs1 ≡ 16 = p.long ∙ t.1.0 in
      let row-slots : length ws1 ≡ 256 = ap length w ∙ length-sets ws 0 ws' ∙ t.1.1 in
      let stored : map held_of (take (counts_of r m n).registries gs1) ≡ map held_now gs' = ap (λ (k : ℕ). map held_of (take k gs1)) i ∙ p.stored in
      let rows : take (counts_of r m n).rows ws1 ≡ ws' = rw (j, w) (rows-first ws ws' (omega (arith, few-rows s gs' ws' t.0, t.1.1))) in
      λ k. record { registry_slots = slots k; registry_count = i k; registries = stored k; row_slots = row-slots k; row_count = j k; rows = rows k }

  pub read-ledger : (refusal_of r) ≡ 0 → Image s after
  read-ledger z = go answer refl
    where
      go : (a : ImageAnswer) → answer ≡ a → Image s after
      go refused e = absurd (not-both (refusal_of r) z (h.number ∙ ap image_number e))
      go (held gs' ws') e =
          record { registries = gs'; rows = ws'; image = (into-held (length gs) (length ws) s gs' ws' e).0; ledger = held_after gs' ws' e }

  pub read-refused : (refusal_of r) ≡ 1 → after ≡ lent_ledger gs m ws n
  read-refused z = go answer refl
    where
      go : (a : ImageAnswer) → answer ≡ a → after ≡ lent_ledger gs m ws n
      go refused e =
          let c : counts_of r m n ≡ record { registries = m; rows = n } = h.counts m n ∙ ap (λ (a : ImageAnswer). counts_after a m n) e in
          let i : (counts_of r m n).registries ≡ m = ap (λ (k : Counts). k.registries) c in
          let j : (counts_of r m n).rows ≡ n = ap (λ (k : Counts). k.rows) c in
          let g : gs1 ≡ gs = rw e at h.registries in
          let w : ws1 ≡ ws = h.rows ∙ ap (λ (a : ImageAnswer). rows_after a ws) e in
          λ k. lent_ledger (g k) (i k) (w k) (j k)
      go (held gs' ws') e = absurd (not-both (refusal_of r) (h.number ∙ ap image_number e) z)

  -- A ledger that was written is read, into slices of 16 registries and 256 rows, as that ledger.
  pub read_back : (l : Ledger) → sound l ≡ true → Ranged l → s ≡ ledger_bytes l → length gs ≡ 16 → length ws ≡ 256 → ((refusal_of r) ≡ 0) × (after ≡ l)
  unfolding image_into
  read_back l sl rl e a b =
      let back = image-back l sl rl in
      let into : answer ≡ held (states_of l) l.rows = rw (a, b) (ap image_of e ∙ back.0) in
      (h.number ∙ ap image_number into, held_after (states_of l) l.rows into ∙ back.1)

  -- An image that was read writes again to the same bytes.
  pub read_again : Bytes s → (refusal_of r) ≡ 0 → ledger_bytes after ≡ s
  read_again b z =
      let i = read-ledger z in
      ap ledger_bytes i.ledger ∙ image-again s i.registries i.rows b i.image
