-- What the two loops leave, where they store what the check of an image lets them store.
--     into-held         an image that is held came into slices of 16 registries and 256 rows
--     few-rows          and has at most 256 rows
--     read-stopped      where there is no plan the image is refused, and what is as it was is what that asks for
--     read-done         else the counts, the rows and the registries afterwards are those of the image
use Rattle.std.specs.Prelude.{Result, Ok, Err}
use Prim.Native.Nat.{ℕ, ◌+◌, ◌≤◌, min}
use native.Mathlib.Omega.{arith}
use mathlib.Core.Path.{◌≡◌, refl, sym, ap, subst, ◌∙◌}
use mathlib.Core.Bool.{Bool, true, false, cond, ◌&&◌, false≢true}
use mathlib.Core.List.{List, [], map}
use borrow.Author.Tests.{eqb-true}
use lib.Dec.{eqb}
use lib.ListN.{length, take, drop}
use lib.Seq.{sets}
use Rattle.laws.proofs.Tests.{and_left, and_right}
use Rattle.codec_cursor.specs.Readers.{starting, placed, times}
use Rattle.registry_state.specs.States.{Registry, read_registry}
use Rattle.registry_state_credential.specs.CredentialStates.{read_credential}
use Rattle.registry_state.specs.declared.RegistryState.{RegistryState}
use Rattle.registry_state_credential.specs.declared.CredentialState.{CredentialState}
use Rattle.ledger_registry_image.specs.Ledgers.{held_of}
use Rattle.ledger_registry_image.specs.Steps.{held_now}
use Rattle.ledger_row_image.specs.Images.{ImageAnswer, read_registries, image_of, image_into}
use Rattle.ledger_row_image.specs.Images.ImageAnswer.{refused, held}
use Rattle.ledger_registry_image.specs.RowImages.{rows_from}
use Rattle.ledger_registry_image.specs.RegistrySections.{registries_in, Stored}
use Rattle.ledger_registry_image.proofs.SectionHeld.{stored-held}
use Rattle.ledger_image_check.specs.Checks.{ImageCheck, view_checked, checked_by, checked_of}
use Rattle.ledger_image_check.proofs.Reread.{Reread, reread}
use Rattle.ledger_image_check.specs.declared.Malformed.{Malformed}
use Rattle.ledger_image_check.specs.declared.Checked.{Checked}
use Rattle.ledger_read.specs.declared.ImageRead.{ImageRead}
use Rattle.ledger_read.specs.ImageReads.{plan_of, Placed, ReadInto}

-- ---- an image that is read
registries_of : ImageAnswer → List Registry
registries_of refused = []
registries_of (held gs ws) = gs

rows_of : ImageAnswer → List CredentialState
rows_of refused = []
rows_of (held gs ws) = ws

is_held : ImageAnswer → Bool
is_held refused = false
is_held (held gs ws) = true

not-held : (gs : List Registry) (ws : List CredentialState) → refused ≡ held gs ws → ⊥
unfolding is_held
not-held gs ws e = false≢true (ap is_held e)

-- what is held came into slices of 16 registries and 256 rows
pub into-held : (m n : ℕ) (s : List ℕ) (gs : List Registry) (ws : List CredentialState) → image_into m n s ≡ held gs ws → (image_of s ≡ held gs ws) × ((m ≡ 16) × (n ≡ 256))
unfolding image_into
into-held m n s gs ws e = go (eqb m 16 && eqb n 256) refl e
  where
    go : (t : Bool) → (eqb m 16 && eqb n 256) ≡ t → cond t (image_of s) refused ≡ held gs ws → (image_of s ≡ held gs ws) × ((m ≡ 16) × (n ≡ 256))
    go true h e = (e, (eqb-true m 16 (and_left (eqb m 16) (eqb n 256) h), eqb-true n 256 (and_right (eqb m 16) (eqb n 256) h)))
    go false h e = absurd (not-held gs ws e)

module _ (s : List ℕ) (gs : List Registry) (ws : List CredentialState) (e : image_of s ≡ held gs ws) where
  -- where its first row stands
  abbrev first : ℕ
  first = (read_registries s starting).next.at + 2

  checked : checked_of s ≡ checked_by first (held gs ws)
  unfolding checked_of
  checked = ap (checked_by first) e

  again : Reread s (checked_by first (held gs ws))
  again = subst (λ (k : ImageCheck). Reread s k) checked (reread s (ap (λ (k : ImageCheck). k.ok) checked))

  same : held (times (length gs) read_registry s (placed 2)).value (times (length ws) read_credential s (placed first)).value ≡ held gs ws
  same = sym again.image ∙ e

  registries-again : (registries_in s (length gs)).value ≡ gs
  unfolding registries_in registries_of
  registries-again = ap registries_of same

  rows-again : rows_from s first (length ws) ≡ ws
  unfolding rows_from rows_of
  rows-again = ap rows_of same

  few : length gs ≤ 16
  few = again.few-registries

  pub few-rows : length ws ≤ 256
  few-rows = again.few-rows

  read_whole : (registries_in s (length gs)).next.ok ≡ true
  unfolding registries_in
  read_whole = again.registries-read

-- ---- what is left where the two loops have stored what the plan has
module _ (s : List ℕ) (gs : List RegistryState) (ws : List CredentialState) where
  abbrev start : ℕ
  start = (read_registries s starting).next.at + 2

  placed-all : (gs' : List Registry) (ws' : List CredentialState) → image_of s ≡ held gs' ws' → length gs ≡ 16 → (gs1 : List RegistryState) → Stored s (length gs') gs gs1 → Placed gs' gs gs1
  placed-all gs' ws' e l gs1 st =
      let k : min (length gs') (length gs) ≡ length gs' = omega (arith, few s gs' ws' e, l) in
      let ok : (registries_in s (min (length gs') (length gs))).next.ok ≡ true = ap (λ (i : ℕ). (registries_in s i).next.ok) k ∙ read_whole s gs' ws' e in
      record {
        stored =
            ap (λ (i : ℕ). map held_of (take i gs1)) (sym k)
            ∙ stored-held s (length gs') gs gs1 st ok
            ∙ ap (λ (i : ℕ). map held_now (registries_in s i).value) k
            ∙ ap (map held_now) (registries-again s gs' ws' e);
        rest = ap (λ (i : ℕ). drop i gs1) (sym k) ∙ st.rest ∙ ap (λ (i : ℕ). drop i gs) k;
        long = st.long;
      }

  pub read-stopped : (r : Result Checked Malformed) → view_checked r ≡ plan_of (length gs) (length ws) s → (e : Malformed) → r ≡ Err e → ReadInto s gs gs ws ws (Err e)
  unfolding plan_of
  read-stopped r h e x = go (image_into (length gs) (length ws) s) refl
    where
      go : (a : ImageAnswer) → image_into (length gs) (length ws) s ≡ a → ReadInto s gs gs ws ws (Err e)
      go refused q = record { number = rw q; counts = λ m n. rw q; rows = rw q; registries = rw q refl }
      go (held gs' ws') q = absurd (false≢true (ap (λ (k : ImageCheck). k.ok) (ap view_checked (sym x) ∙ h ∙ ap (checked_by start) q)))

  module _ (r : Result Checked Malformed) (h : view_checked r ≡ plan_of (length gs) (length ws) s) (p : Checked) (x : r ≡ Ok p) (gs1 : List RegistryState) (st : Stored s p.registries gs gs1) where
    abbrev read : ImageRead
    read = record { registry_count = p.registries; row_count = p.rows }

    planned : (a : ImageAnswer) → image_into (length gs) (length ws) s ≡ a → view_checked (Ok p) ≡ checked_by start a
    unfolding plan_of
    planned a q = ap view_checked (sym x) ∙ h ∙ ap (checked_by start) q

    pub read-done : ReadInto s gs gs1 ws (sets ws 0 (rows_from s p.rows_at p.rows)) (Ok read)
    read-done = go (image_into (length gs) (length ws) s) refl
      where
        go : (a : ImageAnswer) → image_into (length gs) (length ws) s ≡ a → ReadInto s gs gs1 ws (sets ws 0 (rows_from s p.rows_at p.rows)) (Ok read)
        go refused q = absurd (false≢true (sym (ap (λ (k : ImageCheck). k.ok) (planned refused q))))
        go (held gs' ws') q =
            let k = planned (held gs' ws') q in
            let m : p.registries ≡ length gs' = ap (λ (z : ImageCheck). z.registries) k in
            let n : p.rows ≡ length ws' = ap (λ (z : ImageCheck). z.rows) k in
            let f : p.rows_at ≡ start = ap (λ (z : ImageCheck). z.rows_at) k in
            let t = into-held (length gs) (length ws) s gs' ws' q in
            record {
              number = rw q;
              counts = λ _ _. rw (q, m, n);
              rows = rw (q, f, n, rows-again s gs' ws' t.0);
              registries = rw q (placed-all gs' ws' t.0 t.1.0 gs1 (rw m at st));
            }
