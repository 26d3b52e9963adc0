-- For each condition of the claim about two orders, two attempts that are answered in another way where they are exchanged, while every
-- other condition holds; and two orders in which all of them hold (docs/RULES.md, "Two orders").
use Rattle.std.specs.Prelude.{ℕ, zero, suc, List, [], ◌∷◌}
use Rattle.events_tel.specs.TelEvents.{sn_zero, sn_one}
use Rattle.registry_state_credential.specs.declared.CredentialState.{CredentialState}
use Rattle.registry_wire.specs.Attempts.{Message, attempt_bytes}
use Rattle.ledger_step.specs.Ledgers.{Ledger}
use Rattle.ledger_examples.specs.Conditions.{Condition, Needed, Met}
use Rattle.ledger_examples.specs.Conditions.Condition.{no_inceptions, no_present_heads, rotations_in_order, pairs_in_order, room}
use Rattle.ledger_examples.specs.Pieces.{primitive, said, sn_two, plain_id, credential, backed_id, plain, backed, holding, inception, rotation, issue, revocation, issue_by_head}

abbrev pub empty : Ledger
empty = holding [] 0 []

abbrev pub one_plain : Ledger
one_plain = holding (plain ∷ []) 0 []

abbrev pub one_backed : Ledger
one_backed = holding (backed ∷ []) 0 []

abbrev pub issued : Message
issued = issue credential (said 11)

abbrev pub issued_by_head : Message
issued_by_head = issue_by_head credential (said 11)

abbrev pub revoked : Message
revoked = revocation credential (said 11) (said 12)

abbrev pub first_rotation : Message
first_rotation = rotation backed_id sn_one (said 11)

abbrev pub second_rotation : Message
second_rotation = rotation (said 11) sn_two (said 12)

-- a vcp, and an iss of its registry: 2 before it
abbrev pub InceptionsOut : Type 0
InceptionsOut = Needed no_inceptions empty inception issued (0 ∷ 0 ∷ []) (2 ∷ 0 ∷ [])

-- a bis by the present head, and a vrt of its registry: 23 behind it
abbrev pub PresentHeadsOut : Type 0
PresentHeadsOut = Needed no_present_heads one_backed issued_by_head first_rotation (0 ∷ 0 ∷ []) (0 ∷ 23 ∷ [])

-- two vrts of one registry: the second is out of order, 16, before the first
abbrev pub RotationsOrdered : Type 0
RotationsOrdered = Needed rotations_in_order one_backed first_rotation second_rotation (0 ∷ 0 ∷ []) (16 ∷ 0 ∷ [])

-- an iss and a rev of one pair: 5 before it
abbrev pub PairsOrdered : Type 0
PairsOrdered = Needed pairs_in_order one_plain issued revoked (0 ∷ 0 ∷ []) (5 ∷ 0 ∷ [])

-- A ledger that has one row left: rows of 255 credentials, whose saids have the letter F.
unfoldable pub held_rows : ℕ → List CredentialState
held_rows zero = []
held_rows (suc n) = record { registry = plain_id; credential = record { 0 = primitive 70 n }; sn = sn_zero; head = said 10 } ∷ held_rows n

abbrev pub one_left : Ledger
one_left = holding (plain ∷ []) 255 (held_rows 255)

abbrev pub issued_too : Message
issued_too = issue (said 4) (said 12)

-- two iss of pairs that are not held, with one row too few: 29 for the second, whichever that is
abbrev pub RoomLeft : Type 0
RoomLeft = Needed room one_left issued issued_too (0 ∷ 29 ∷ []) (0 ∷ 29 ∷ [])

-- So every condition is needed.
abbrev pub EachNeeded : Type 0
EachNeeded =
    (c : Condition) → (l : Ledger) × (a : Message) × (b : Message) × (numbers : List ℕ) × (exchanged : List ℕ) × Needed c l a b numbers exchanged

-- All of them hold: two vrts of one registry, an iss and a rev of a pair under another, a rev of a pair that is not held, and bytes that are
-- no attempt, in two orders.
abbrev pub plain_and_backed : Ledger
plain_and_backed = holding (plain ∷ backed ∷ []) 0 []

abbrev pub absent : Message
absent = revocation (said 4) (said 11) (said 12)

abbrev pub no_bytes : List ℕ
no_bytes = []

abbrev pub one_order : List (List ℕ)
one_order =
    attempt_bytes first_rotation ∷ attempt_bytes second_rotation ∷ attempt_bytes issued ∷ attempt_bytes revoked ∷ attempt_bytes absent ∷ no_bytes ∷ []

abbrev pub other_order : List (List ℕ)
other_order =
    no_bytes ∷ attempt_bytes issued ∷ attempt_bytes first_rotation ∷ attempt_bytes absent ∷ attempt_bytes revoked ∷ attempt_bytes second_rotation ∷ []

abbrev pub ConditionsMet : Type 0
ConditionsMet = Met plain_and_backed one_order (0 ∷ 0 ∷ 0 ∷ 0 ∷ 5 ∷ 1 ∷ []) other_order (1 ∷ 0 ∷ 0 ∷ 5 ∷ 0 ∷ 0 ∷ [])
