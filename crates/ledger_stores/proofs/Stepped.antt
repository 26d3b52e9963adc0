-- What a lent ledger is once the effect of an attempt is stored: the ledger with the change made.
use Prim.Native.Nat.{ℕ, ◌+◌, ◌<◌}
use mathlib.Core.Path.{◌≡◌, refl, sym, ap, ◌∙◌}
use mathlib.Core.List.{List, [], ◌∷◌, ◌++◌, map}
use native.Mathlib.Omega.{arith}
use native.Mathlib.Decide.{dec_lt}
use lib.ListN.{length, length-set, set, take}
use lib.Seq.{set_out, take-set-le, take-set-lt}
use Rattle.laws.proofs.Views.{kept-size, kept_push, seen_size, seen-push}
use Rattle.cesr.specs.Primitives.{eq_said}
use Rattle.registry_state_credential.specs.CredentialStates.{no_credential}
use Rattle.registry_state.specs.declared.RegistryState.{RegistryState}
use Rattle.registry_state_credential.specs.declared.CredentialState.{CredentialState}
use Rattle.ledger_rows.specs.Pairs.{Pair, key_of}
use Rattle.ledger_rows.specs.Tables.{put, place}
use Rattle.ledger_rows.specs.Ledgers.{Held, held_of, id_of, eq_pair, lent_ledger}
use Rattle.ledger_rows.specs.Steps.{Effect, request_of, effect, changed, step_of}
use Rattle.ledger_rows.specs.Steps.Effect.{refuse, new_registry, set_registry, new_row, set_row}
use Rattle.ledger_rows.specs.Rows.{find_at}
use Rattle.ledger_rows.proofs.PlaceLaws.{put-place}
use Rattle.ledger_registries.specs.Registries.{find_registry}
use Rattle.ledger_registries.proofs.RegistryViews.{stored-registry}
use Rattle.ledger_stores.specs.Applies.{Lent, lent, view_lent, Stores}
use Rattle.ledger_stores.proofs.Fits.{Fits, effect-fits}

module _ (gs : List RegistryState) (m : ℕ) (ws : List CredentialState) (n : ℕ) where
  abbrev a : Lent
  a = lent gs m ws n

  -- a registry in a place, and a row
  abbrev with_registries : List RegistryState → ℕ → Lent
  with_registries l c = lent l c ws n

  abbrev with_rows : List CredentialState → ℕ → Lent
  with_rows l c = lent gs m l c

  pushed : (g : RegistryState) → m < length gs → map held_of (take (m + 1) (set gs m g)) ≡ map held_of (take m gs) ++ (held_of g ∷ [])
  pushed g h = seen-push held_of m (length gs) gs refl g (omega (arith, seen_size held_of m (length gs) gs refl))

  row_pushed : (w : CredentialState) → n < length ws → take (n + 1) (set ws n w) ≡ take n ws ++ (w ∷ [])
  row_pushed w h = kept_push n (length ws) ws refl w (omega (arith, kept-size n (length ws) ws refl))

  row-put : (k : Pair) (w : CredentialState) → put key_of eq_pair k w (take n ws) ≡ take n (set ws (find_at ws n k.registry k.credential) w)
  unfolding find_at
  row-put k w = put-place key_of eq_pair no_credential k w (take n ws) ∙ go (place key_of eq_pair no_credential k (take n ws))
    where
      go : (p : ℕ) → set (take n ws) p w ≡ take n (set ws p w)
      go p =
          elim (dec_lt p n) [
            | yes b ↦ sym (take-set-lt n ws p w b)
            | no b ↦ set_out (take n ws) p w (omega (arith, kept-size n (length ws) ws refl)) ∙ sym (take-set-le n ws p w (omega arith))
          ]

  -- the registries, or the rows, of the ledger, where one of them was stored
  registries-are : (i : ℕ) (g : RegistryState) (c : ℕ) (l : List Held) → map held_of (take c (set gs i g)) ≡ l → view_lent (with_registries (set gs i g) c) ≡ record { registry_slots = length gs; registry_count = c; registries = l; row_slots = length ws; row_count = n; rows = take n ws }
  unfolding lent_ledger
  registries-are i g c l e =
      λ t. record { registry_slots = length-set gs i g t; registry_count = c; registries = e t; row_slots = length ws; row_count = n; rows = take n ws }

  rows_are : (i : ℕ) (w : CredentialState) (c : ℕ) (l : List CredentialState) → take c (set ws i w) ≡ l → view_lent (with_rows (set ws i w) c) ≡ record { registry_slots = length gs; registry_count = m; registries = map held_of (take m gs); row_slots = length ws; row_count = c; rows = l }
  unfolding lent_ledger
  rows_are i w c l e =
      λ t. record { registry_slots = length gs; registry_count = m; registries = map held_of (take m gs); row_slots = length-set ws i w t; row_count = c; rows = e t }

  change : (e : Effect) (b : Lent) → Fits (view_lent a) e → Stores e a b → view_lent b ≡ changed (view_lent a) e
  unfolding lent_ledger
  change (refuse r) b f p = ap view_lent p
  change (new_registry h) b f p =
      ap view_lent p.2 ∙ registries-are m p.0 (m + 1) _ (pushed p.0 f ∙ ap (λ (z : Held). map held_of (take m gs) ++ (z ∷ [])) p.1)
  change (set_registry id h) b f p =
      ap view_lent p.2
      ∙ registries-are (find_registry gs m id) p.0 m _ (sym (stored-registry gs m id p.0) ∙ ap (λ (z : Held). put id_of eq_said id z (map held_of (take m gs))) p.1)
  change (new_row w) b f p = ap view_lent p ∙ rows_are n w (n + 1) _ (row_pushed w f)
  change (set_row k w) b f p = ap view_lent p ∙ rows_are (find_at ws n k.registry k.credential) w n _ (sym (row-put k w))

  -- so it is the ledger's step
  pub stepped : (s : List ℕ) (b : Lent) → Stores (effect (view_lent a) (request_of s)) a b → view_lent b ≡ (step_of (view_lent a) s).ledger
  unfolding step_of
  stepped s b p = change (effect (view_lent a) (request_of s)) b (effect-fits (view_lent a) (request_of s)) p
