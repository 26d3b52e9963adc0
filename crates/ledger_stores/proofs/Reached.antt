-- What the calls of `apply` tell together.
--     Done       what the contract of `apply` says of the answer and of the slices that it leaves
--     Came       what its calls come to, for every ledger and every attempt
--     reached    stored, that is so
use Prim.Native.Nat.{ℕ}
use mathlib.Core.Path.{◌≡◌, refl, sym, subst}
use mathlib.Core.Bool.{Bool, true, false}
use mathlib.Core.List.{List}
use lib.ListN.{length, length-set}
use Rattle.std.proofs.Common.{Result, Ok, Err}
use Rattle.registry_state.specs.declared.RegistryState.{RegistryState}
use Rattle.registry_state_credential.specs.declared.CredentialState.{CredentialState}
use Rattle.registry_error.specs.declared.RegistryRejection.{RegistryRejection}
use Rattle.registry_error.specs.declared.RegistryRejection.TheVariants.{Malformed}
use Rattle.ledger_rows.specs.Ledgers.{Ledger, lent_ledger, sound}
use Rattle.ledger_rows.specs.Steps.{request_of, effect, step_of}
use Rattle.ledger_asked.specs.declared.Named.{Named}
use Rattle.ledger_asked.specs.Names.{head_named, decodes}
use Rattle.ledger_answers.specs.declared.Change.{Change}
use Rattle.ledger_answers.specs.declared.Change.TheVariants.{Registry, Row}
use Rattle.ledger_answers.specs.Checks.{if_read, Makes}
use Rattle.ledger_answers.specs.Readings.{behind_reading}
use Rattle.ledger_stores.specs.Effects.{named_effect, registry_found, row_found}
use Rattle.ledger_stores.specs.Applies.{Lent, lent, view_lent, Stores, answer_to, lent_after}
use Rattle.ledger_stores.proofs.Answered.{Answered, broken, unnamed, named}
use Rattle.ledger_stores.proofs.Stepped.{stepped}

module _ (gs : List RegistryState) (m : ℕ) (ws : List CredentialState) (n : ℕ) (s : List ℕ) where
  abbrev l : Ledger
  l = lent_ledger gs m ws n

  abbrev a : Lent
  a = lent gs m ws n

  pub record Done (x : Result Change RegistryRejection) : Type 0 where
    pub answer : answer_to x ≡ (step_of l s).answer
    pub ledger : view_lent (lent_after x a) ≡ (step_of l s).ledger
    pub stored : Stores (effect l (request_of s)) a (lent_after x a)
    pub registries-long : length (lent_after x a).registries ≡ length gs
    pub rows_long : length (lent_after x a).rows ≡ length ws

  registries-kept : (x : Result Change RegistryRejection) → length (lent_after x a).registries ≡ length gs
  registries-kept (Err r) = refl
  registries-kept (Ok (Registry at g count)) = length-set gs at g
  registries-kept (Ok (Row at w count)) = refl

  rows-kept : (x : Result Change RegistryRejection) → length (lent_after x a).rows ≡ length ws
  rows-kept (Err r) = refl
  rows-kept (Ok (Registry at g count)) = refl
  rows-kept (Ok (Row at w count)) = length-set ws at w

  settled : (x : Result Change RegistryRejection) → Answered gs m ws n s x → Done x
  settled x h =
      record
      { answer = h.answer; ledger = stepped gs m ws n s _ h.stored; stored = h.stored; registries-long = registries-kept x; rows_long = rows-kept x }

  -- what the calls come to: 1 of a ledger that breaks a reading rule; of an attempt that names nothing the refusal that it gets; else what `next` makes of what is named
  abbrev pub Came : Bool → Result Named RegistryRejection → Result Change RegistryRejection → Type 0
  Came false k x = x ≡ Err Malformed
  Came true (Err r) x = x ≡ Err (behind_reading (decodes s) r)
  Came true (Ok q) x =
      Makes (if_read s (named_effect s q (registry_found gs m q.registry) (row_found ws n q.registry q.credential))) (registry_found gs m q.registry) (row_found ws n q.registry q.credential) x

  pub reached : (ok : Bool) → ok ≡ sound l → (k : Result Named RegistryRejection) → k ≡ head_named s → (x : Result Change RegistryRejection) → Came ok k x → Done x
  reached false e k h x p = subst Done (sym p) (settled (Err Malformed) (broken gs m ws n s (sym e)))
  reached true e (Err r) h x p = subst Done (sym p) (settled (Err (behind_reading (decodes s) r)) (unnamed gs m ws n s (sym e) r (sym h)))
  reached true e (Ok q) h x p = settled x (named gs m ws n s (sym e) q (sym h) x p)
