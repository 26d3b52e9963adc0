-- Dispositions: their letters and what they await (docs/RULES.md, "Refusals").
use Rattle.std.specs.Prelude.{ℕ, cond, ltb}
use Rattle.cesr_sn.specs.Numbers.{value}
use Rattle.cesr_sn.specs.declared.Sn.{Sn}
use Rattle.registry_disposition.specs.declared.EvidenceKind.{EvidenceKind}
use Rattle.registry_disposition.specs.declared.EvidenceKind.TheVariants as E
use Rattle.registry_disposition.specs.declared.Disposition.{Disposition}
use Rattle.registry_disposition.specs.declared.Disposition.TheVariants.{Terminal, Contested, Awaiting}

-- a number that is too high waits for the events before it, one that is taken is contested
unfoldable pub out_of_order : Sn → Sn → Disposition
out_of_order expected actual = cond (ltb (value expected) (value actual)) (Awaiting (E.PriorEvents expected)) Contested

-- the letter of a disposition: T, C, W
abbrev pub letter_of : Disposition → ℕ
letter_of Terminal = 84
letter_of Contested = 67
letter_of (Awaiting e) = 87

-- the place, from 1, of an evidence kind among those of the source; 0 where nothing is awaited
abbrev pub kind_place : EvidenceKind → ℕ
kind_place E.CredentialTelState = 2
kind_place E.RegistryState = 11
kind_place E.IssuerState = 12
kind_place E.KelAnchor = 13
kind_place (E.PriorEvents expected) = 14
kind_place (E.BackerReceipts valid required) = 17
kind_place (E.TelAnchor s) = 20

abbrev pub awaited_of : Disposition → ℕ
awaited_of Terminal = 0
awaited_of Contested = 0
awaited_of (Awaiting e) = kind_place e
