-- What an attempt is answered, and what is stored then, is what it comes to in the ledger.
--     Answered        that is so
--     broken, unnamed, named   of a ledger that breaks a reading rule, of an attempt that names nothing, and of one that names something
use Prim.Native.Nat.{ℕ}
use mathlib.Core.Path.{◌≡◌, refl, sym, ap, subst, ◌∙◌}
use mathlib.Core.Bool.{Bool, true, false, cond}
use mathlib.Core.List.{List}
use Rattle.std.proofs.Common.{Result, Ok, Err}
use Rattle.registry_state.specs.declared.RegistryState.{RegistryState}
use Rattle.registry_state_credential.specs.declared.CredentialState.{CredentialState}
use Rattle.registry_error.specs.declared.RegistryRejection.{RegistryRejection}
use Rattle.registry_error.specs.declared.RegistryRejection.TheVariants.{Malformed}
use Rattle.ledger_rows.specs.Ledgers.{Ledger, lent_ledger, sound}
use Rattle.ledger_rows.specs.Steps.{Effect, request_of, effect, effect_of, answer_of, step_of}
use Rattle.ledger_rows.specs.Steps.Effect.{refuse}
use Rattle.ledger_asked.specs.declared.Named.{Named}
use Rattle.ledger_asked.specs.Names.{head_named, decodes}
use Rattle.ledger_answers.specs.declared.Found.{Found}
use Rattle.ledger_answers.specs.declared.Change.{Change}
use Rattle.ledger_answers.specs.Checks.{if_read, Makes}
use Rattle.ledger_answers.specs.Readings.{behind_reading}
use Rattle.ledger_stores.specs.Effects.{named_effect, registry_found, row_found}
use Rattle.ledger_stores.specs.Applies.{Lent, lent, Stores, answer_to, lent_after}
use Rattle.ledger_stores.proofs.EffectLaws.{searched, named-effect, unnamed-effect}
use Rattle.ledger_stores.proofs.Made.{aims, answers, stores}

module _ (gs : List RegistryState) (m : ℕ) (ws : List CredentialState) (n : ℕ) (s : List ℕ) where
  abbrev l : Ledger
  l = lent_ledger gs m ws n

  abbrev a : Lent
  a = lent gs m ws n

  pub record Answered (x : Result Change RegistryRejection) : Type 0 where
    pub answer : answer_to x ≡ (step_of l s).answer
    pub stored : Stores (effect l (request_of s)) a (lent_after x a)

  by-effect : (e : Effect) (x : Result Change RegistryRejection) → e ≡ effect l (request_of s) → answer_to x ≡ answer_of e → Stores e a (lent_after x a) → Answered x
  unfolding step_of
  by-effect e x p q h =
      record
      { answer = q ∙ ap answer_of p; stored = subst (λ (z : Effect). Stores z a (lent_after x a)) p h }

  pub broken : sound l ≡ false → Answered (Err Malformed)
  unfolding effect
  broken h = by-effect (refuse Malformed) (Err Malformed) (ap (λ (t : Bool). cond t (effect_of l (request_of s)) (refuse Malformed)) (sym h)) refl refl

  module _ (h : sound l ≡ true) where
    pub unnamed : (r : RegistryRejection) → head_named s ≡ Err r → Answered (Err (behind_reading (decodes s) r))
    unnamed r e = by-effect (refuse (behind_reading (decodes s) r)) (Err (behind_reading (decodes s) r)) (unnamed-effect l s h r e) refl refl

    pub named : (q : Named) → head_named s ≡ Ok q → (x : Result Change RegistryRejection) → Makes (if_read s (named_effect s q (registry_found gs m q.registry) (row_found ws n q.registry q.credential))) (registry_found gs m q.registry) (row_found ws n q.registry q.credential) x → Answered x
    named q e x p =
        let f : Found RegistryState = registry_found gs m q.registry in
        let o : Found CredentialState = row_found ws n q.registry q.credential in
        by-effect (if_read s (named_effect s q f o)) x (named-effect l s h q f o e (searched gs m ws n q))
        (answers f o (if_read s (named_effect s q f o)) x p)
        (stores gs m ws n q (if_read s (named_effect s q f o)) x (aims q s f o) p)
