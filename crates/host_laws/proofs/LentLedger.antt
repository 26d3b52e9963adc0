-- A ledger that is lent as one block, whose counts alone are stored.
--     emptied   with both counts 0 it is the ledger that holds nothing, whatever stands in its arrays
use mathlib.Core.Path.{◌≡◌}
use mathlib.Core.List.{List, []}
use lib.ListN.{length}
use Rattle.registry_state.specs.declared.RegistryState.{RegistryState}
use Rattle.registry_state_credential.specs.declared.CredentialState.{CredentialState}
use Rattle.ledger_image.specs.Ledgers.{lent_ledger}
use Rattle.ledger_image.specs.Images.{ledger_of}
use Rattle.ledger_table.specs.Tables.{view_ledger}

pub emptied : (gs : List RegistryState) (ws : List CredentialState) → length gs ≡ 16 → length ws ≡ 256 → view_ledger (record { registries = gs; registry_count = 0; rows = ws; row_count = 0 }) ≡ ledger_of [] []
unfolding view_ledger lent_ledger ledger_of
emptied gs ws e f = λ i. record { registry_slots = e i; registry_count = 0; registries = []; row_slots = f i; row_count = 0; rows = [] }
