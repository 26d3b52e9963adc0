-- What is held once an attempt was made against both arrays of a ledger.
--     next           the ledger that is made of what the call leaves
--     applied-answer, applied-view     the answer, and the ledger afterwards, are those of the ledger's step
--     applied-kept   after a refusal the ledger is the one that was there, whatever stands in its arrays
use mathlib.Core.Path.{◌≡◌, sym, ap, ◌∙◌}
use mathlib.Core.Bool.{false, true≢false}
use mathlib.Core.List.{List}
use Prim.Native.Nat.{ℕ}
use Rattle.registry_state.specs.declared.RegistryState.{RegistryState}
use Rattle.registry_state_credential.specs.declared.CredentialState.{CredentialState}
use Rattle.registry_answer.specs.Answers.{accepts}
use Rattle.ledger_step.specs.Ledgers as L
use Rattle.ledger_step.specs.Steps.{Effect, request_of, effect, answer_of, step_of}
use Rattle.ledger_step.specs.Steps.Effect.{refuse, new_registry, set_registry, new_row, set_row}
use Rattle.ledger_stores.specs.Applies.{Lent, lent, Stores}
use Rattle.ledger_stores.specs.declared.Applied.{Applied}
use Rattle.ledger_table.specs.Tables.{view_ledger}
use Rattle.ledger_table.specs.declared.Ledger.{Ledger}

-- the ledger that is made of what the call leaves
abbrev pub next : Applied → List RegistryState → List CredentialState → Ledger
next r gs ws = record { registries = gs; registry_count = r.registry_count; rows = ws; row_count = r.row_count }

-- an effect that is no acceptance stores nothing
refusal-stores : (e : Effect) (a b : Lent) → accepts (answer_of e) ≡ false → Stores e a b → b ≡ a
refusal-stores (refuse r) a b h s = s
refusal-stores (new_registry g) a b h s = absurd (true≢false h)
refusal-stores (set_registry id g) a b h s = absurd (true≢false h)
refusal-stores (new_row w) a b h s = absurd (true≢false h)
refusal-stores (set_row k w) a b h s = absurd (true≢false h)

module _ (before : Ledger) (s : List ℕ) (r : Applied) where
  abbrev held : L.Ledger
  held = L.lent_ledger before.registries before.registry_count before.rows before.row_count

  abbrev entry : Lent
  entry = lent before.registries before.registry_count before.rows before.row_count

  pub applied-answer : r.answer ≡ (step_of held s).answer → r.answer ≡ (step_of (view_ledger before) s).answer
  unfolding view_ledger
  applied-answer e = e

  module _ (gs : List RegistryState) (ws : List CredentialState) where
    abbrev exit : Lent
    exit = lent gs r.registry_count ws r.row_count

    pub applied-view : L.lent_ledger gs r.registry_count ws r.row_count ≡ (step_of held s).ledger → view_ledger (next r gs ws) ≡ (step_of (view_ledger before) s).ledger
    unfolding view_ledger
    applied-view e = e

    pub applied-kept : r.answer ≡ (step_of held s).answer → Stores (effect held (request_of s)) entry exit → accepts r.answer ≡ false → next r gs ws ≡ before
    unfolding step_of
    applied-kept e st h =
        let q = refusal-stores (effect held (request_of s)) entry exit (sym (ap accepts e) ∙ h) st in
        λ i. record { registries = (q i).registries; registry_count = (q i).registry_count; rows = (q i).rows; row_count = (q i).row_count }
