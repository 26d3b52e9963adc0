use mathlib.Core.Path.{◌≡◌, refl, ap, ◌∙◌}
use mathlib.Core.Bool.{Bool, ◌&&◌}
use native.Mathlib.Omega.{arith}
use lib.Dec.{ltb, leb-suc-suc}
use Rattle.cesr_sn.specs.Numbers.{value}
use Rattle.cesr_sn.specs.declared.Sn.{Sn}
use Rattle.cesr_sn.proofs.Order.{less_value}
use Rattle.registry_state_credential.specs.CredentialStates.{well_credential}
use Rattle.registry_state_credential.specs.declared.CredentialState.{CredentialState}
use Rattle.ledger_step.specs.Ledgers.{zero_or_one}
use Rattle.ledger_row_rules.proofs.rules.row_sound.Goals as goal

-- less than 2 is at most 1
below_two : (w : CredentialState) (two : Sn) → value two ≡ 2 → (well_credential w && ltb (value w.sn) (value two)) ≡ (well_credential w && zero_or_one w)
below_two w two e = rw e (ap (λ (t : Bool). well_credential w && t) (leb-suc-suc (value w.sn) 1))

pub returns : goal.returns
unfolding value
returns c =
    let two : Sn = record { hi = 0; lo = 2 } in
    rw (c.lt.ensures ∙ less_value c.args.w.sn two (omega arith) (omega arith), c.well_formed-2.ensures) (below_two c.args.w two refl)
