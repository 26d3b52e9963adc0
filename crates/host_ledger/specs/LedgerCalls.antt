-- The key of a look-up in its bytes, and the reports of look-ups and of images (docs/RULES.md, "Host's calls").
use Rattle.std.specs.Prelude.{ℕ, cond, List, [], ◌∷◌, eqb, length}
use Rattle.cesr.specs.Primitives.{none, read_matter}
use Rattle.cesr.specs.declared.Said.{Said}
use Rattle.registry_laws.specs.Pairs.{Pair}
use Rattle.ledger_step.specs.Ledgers as L
use Rattle.ledger_image.specs.Images as I
use Rattle.ledger_standing.specs.Lookups.{key_pair}
use Rattle.host_report.specs.Reports.{plain_report}
use Rattle.host_ledger.specs.declared.key.Key.{Key}

-- a part of a key has 33 bytes; bytes of another length are no primitive
unfoldable pub said_in : List ℕ → Said
said_in s = record { 0 = cond (eqb (length s) 33) (read_matter s 0) none }

abbrev pub key_in : List ℕ → List ℕ → Pair
key_in registry credential = key_pair (said_in registry) (said_in credential)

-- the key in the code
abbrev pub view_key : Key → Pair
view_key k = key_pair k.registry k.credential

-- a look-up gives the standing
abbrev pub look_up_report : L.LookedUp → List ℕ
look_up_report a = plain_report a.refusal (a.standing ∷ [])

-- an image that is written gives its length
abbrev pub image_report : I.Written → List ℕ
image_report a = plain_report a.number (a.size ∷ [])

-- an image that is read gives no values
abbrev pub read_report : ℕ → List ℕ
read_report number = plain_report number []
