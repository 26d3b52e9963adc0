-- The reading rules of a ledger, by what they speak of: registries alone, rows alone, and both.
use mathlib.Core.Path.{◌≡◌, refl}
use mathlib.Core.Bool.{Bool, true, false, ◌&&◌}
use mathlib.Core.List.{map}
use lib.Dec.{eqb, leb}
use Rattle.codec.specs.Layout.{all}
use Rattle.cesr.specs.Primitives.{eq_said}
use Rattle.registry_state_credential.specs.CredentialStates.{well_credential}
use Rattle.registry_laws.specs.Pairs.{key_of}
use Rattle.ledger_step.specs.Tables.{distinct}
use Rattle.ledger_step.specs.Ledgers.{Ledger, ids_of, eq_pair, holds, keeps_layout, keeps_rules, has_registry, zero_or_one, registry_rules, row_rules, sound}

none_of : (a : Bool) → (a && false) ≡ false
none_of true = refl
none_of false = refl

turned : (c d f h i j : Bool) → (c && (d && (f && (h && (i && (j && true)))))) ≡ ((c && (d && (f && (h && (j && true))))) && i)
turned false d f h i j = refl
turned true false f h i j = refl
turned true true false h i j = refl
turned true true true false i j = refl
turned true true true true i false = none_of i
turned true true true true false true = refl
turned true true true true true true = refl

sorted : (a b c d e f g h i j k : Bool) → (a && (b && (c && (d && (e && (f && (g && (h && (i && (j && (k && true))))))))))) ≡ ((a && (b && (e && (g && (k && true))))) && ((c && (d && (f && (h && (j && true))))) && i))
sorted false b c d e f g h i j k = refl
sorted true false c d e f g h i j k = refl
sorted true true c d false f g h i j k = rw (none_of d, none_of c)
sorted true true c d true f false h i j k = rw (none_of f, none_of d, none_of c)
sorted true true c d true f true h i j false = rw (none_of j, none_of i, none_of h, none_of f, none_of d, none_of c)
sorted true true c d true f true h i j true = turned c d f h i j

pub sound-parts : (l : Ledger) → sound l ≡ (holds (registry_rules l.registry_slots l.registry_count l.registries) && (holds (row_rules l.row_slots l.row_count l.rows) && all (has_registry (ids_of l)) l.rows))
unfolding sound holds
sound-parts l = sorted (eqb l.registry_slots 16) (leb l.registry_count 16) (eqb l.row_slots 256) (leb l.row_count 256) (all keeps_layout l.registries) (all well_credential l.rows) (distinct eq_said (ids_of l)) (distinct eq_pair (map key_of l.rows)) (all (has_registry (ids_of l)) l.rows) (all zero_or_one l.rows) (all keeps_rules l.registries)
