-- What a search in a lent ledger says of the ledger that is lent.
--     looked-up      what is answered from the row that a search for the key found is the look-up
use Prim.Native.Nat.{ℕ}
use mathlib.Core.Path.{◌≡◌, refl, sym, ap, ◌∙◌}
use mathlib.Core.Bool.{Bool, true, false, cond, ◌&&◌}
use mathlib.Core.List.{List}
use borrow.Author.Tests.{ltb-true, ltb-false}
use lib.Dec.{ltb}
use lib.ListN.{length, take, get_or}
use Rattle.std.proofs.Math.Option as M
use Rattle.std.specs.List.{slice_get}
use Rattle.std.proofs.lemmas.Option.{slice_get-get_or, slice_get_past}
use Rattle.cesr.specs.declared.Said.{Said}
use Rattle.registry_state_credential.specs.CredentialStates.{no_credential}
use Rattle.registry_state.specs.declared.RegistryState.{RegistryState}
use Rattle.registry_state_credential.specs.declared.CredentialState.{CredentialState}
use Rattle.registry_laws.specs.Pairs.{Pair, key_of}
use Rattle.ledger_step.specs.Tables.{place}
use Rattle.ledger_step.specs.Ledgers.{LookedUp, lent_ledger, sound, eq_pair, standing_of, well_pair, look_up}
use Rattle.ledger_step.proofs.PlaceLaws.{find-place}
use Rattle.ledger_rows.specs.Rows.{find_at}
use Rattle.ledger_standing.specs.Lookups.{key_pair, row_standing, looked_up_of}

-- the standing by what stands at a place of the rows
got : (l : List CredentialState) (p : ℕ) → row_standing (slice_get l p) ≡ standing_of (cond (ltb p (length l)) (M.some (get_or l p no_credential)) M.none)
got l p = go (ltb p (length l)) refl
  where
    go : (t : Bool) → ltb p (length l) ≡ t → row_standing (slice_get l p) ≡ standing_of (cond t (M.some (get_or l p no_credential)) M.none)
    go true e = ap row_standing (slice_get-get_or l p no_credential (ltb-true p (length l) e))
    go false e = ap row_standing (slice_get_past l p (ltb-false p (length l) e))

pub looked-up : (gs : List RegistryState) (m : ℕ) (ws : List CredentialState) (n : ℕ) (r c : Said) → looked_up_of (sound (lent_ledger gs m ws n)) (slice_get (take n ws) (find_at ws n r c)) (key_pair r c) ≡ look_up (lent_ledger gs m ws n) (key_pair r c)
unfolding looked_up_of look_up lent_ledger find_at
looked-up gs m ws n r c =
    ap answered (got (take n ws) (place key_of eq_pair no_credential k (take n ws)) ∙ ap standing_of (sym (find-place key_of eq_pair no_credential k (take n ws))))
  where
    k : Pair
    k = key_pair r c

    answered : ℕ → LookedUp
    answered x = cond (sound (lent_ledger gs m ws n) && well_pair k) (record { refusal = 0; standing = x }) (record { refusal = 1; standing = 0 })
