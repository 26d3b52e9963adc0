-- What is held once an image was read into both arrays of a ledger.
--     next           the ledger that is made of what was read
--     answer-is      the arrays are as long as an image asks for
--     number-as      what is answered is the image's number
--     view-as        the ledger afterwards is the one that the image holds, or the one that was there
--     kept-as        after a refusal it is the one that was there, whatever stands in its arrays
--     read-refused   and so it is held on
use Rattle.std.specs.Prelude.{Result}
use Prim.Native.Nat.{ℕ}
use native.Mathlib.Omega.{arith}
use mathlib.Core.Path.{◌≡◌, refl, ap, sym, ◌∙◌}
use mathlib.Core.List.{List}
use lib.ListN.{length}
use Rattle.registry_state.specs.declared.RegistryState.{RegistryState}
use Rattle.registry_state_credential.specs.declared.CredentialState.{CredentialState}
use Rattle.ledger_image.specs.Images.{ImageAnswer, image_number, image_of, image_into}
use Rattle.ledger_image.specs.Images.ImageAnswer.{refused, held}
use Rattle.ledger_read.specs.ImageReads.{ReadInto, counts_of, counts_after, rows_after}
use Rattle.ledger_step.specs.Refusals.{refusal_of}
use Rattle.ledger_step.specs.declared.Malformed.{Malformed}
use Rattle.ledger_read.specs.declared.ImageRead.{ImageRead}
use Rattle.ledger_read.proofs.ReadBack.{held_after}
use Rattle.ledger_table.specs.Tables.{view_ledger, ledger_after}
use Rattle.ledger_table.specs.declared.Ledger.{Ledger}

-- the ledger that is made of what was read; after a refusal the counts are those of before
abbrev pub next : Ledger → Result ImageRead Malformed → List RegistryState → List CredentialState → Ledger
next before r gs ws = let k = counts_of r before.registry_count before.row_count in record { registries = gs; registry_count = k.registries; rows = ws; row_count = k.rows }

-- an image whose number is 1 is refused
number-refused : (a : ImageAnswer) → 1 ≡ image_number a → a ≡ refused
number-refused refused h = refl
number-refused (held gs ws) h = absurd (omega (arith, h))

pub answer-is : (gs : List RegistryState) (ws : List CredentialState) (s : List ℕ) → length gs ≡ 16 → length ws ≡ 256 → image_into (length gs) (length ws) s ≡ image_of s
unfolding image_into
answer-is gs ws s e f = ap (λ (k : ℕ). image_into k (length ws) s) e ∙ ap (λ (k : ℕ). image_into 16 k s) f

module _ (before : Ledger) (s : List ℕ) (e : length before.registries ≡ 16) (f : length before.rows ≡ 256) (r : Result ImageRead Malformed) (gs : List RegistryState) (ws : List CredentialState) (h : ReadInto s before.registries gs before.rows ws r) where
  answer : image_into (length before.registries) (length before.rows) s ≡ image_of s
  answer = answer-is before.registries before.rows s e f

  read_number : refusal_of r ≡ image_number (image_of s)
  read_number = h.number ∙ ap image_number answer

  read_kept : image_of s ≡ refused → next before r gs ws ≡ before
  read_kept q =
      let a = answer ∙ q in
      let c : counts_of r before.registry_count before.row_count ≡ record { registries = before.registry_count; rows = before.row_count } = h.counts before.registry_count before.row_count ∙ ap (λ (z : ImageAnswer). counts_after z before.registry_count before.row_count) a in
      let g : gs ≡ before.registries = rw a at h.registries in
      let w : ws ≡ before.rows = h.rows ∙ ap (λ (z : ImageAnswer). rows_after z before.rows) a in
      λ i. record { registries = g i; registry_count = (c i).registries; rows = w i; row_count = (c i).rows }

  read_view : view_ledger (next before r gs ws) ≡ ledger_after (image_of s) (view_ledger before)
  unfolding view_ledger
  read_view = go (image_of s) refl
    where
      go : (a : ImageAnswer) → image_of s ≡ a → view_ledger (next before r gs ws) ≡ ledger_after a (view_ledger before)
      go refused q = ap view_ledger (read_kept q)
      go (held gs' ws') q = held_after s before.registries gs before.rows ws before.registry_count before.row_count r h gs' ws' (answer ∙ q)

  -- the same, by what the answer is
  module _ (q : Result ImageRead Malformed) (x : r ≡ q) where
    pub number-as : refusal_of q ≡ image_number (image_of s)
    number-as = ap (λ (z : Result ImageRead Malformed). refusal_of z) (sym x) ∙ read_number

    pub view-as : view_ledger (next before q gs ws) ≡ ledger_after (image_of s) (view_ledger before)
    view-as = ap (λ (z : Result ImageRead Malformed). view_ledger (next before z gs ws)) (sym x) ∙ read_view

    pub kept-as : image_of s ≡ refused → next before q gs ws ≡ before
    kept-as h = ap (λ (z : Result ImageRead Malformed). next before z gs ws) (sym x) ∙ read_kept h

-- After a refusal the ledger of before is that of the answer.
pub read-refused : (before : Ledger) (s : List ℕ) → 1 ≡ image_number (image_of s) → view_ledger before ≡ ledger_after (image_of s) (view_ledger before)
read-refused before s h = rw (number-refused (image_of s) h)
