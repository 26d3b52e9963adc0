-- The refusals: their numbers, dispositions and details (docs/RULES.md, "Refusals").
use Rattle.std.specs.Prelude.{ℕ, List, [], ◌∷◌, Result, Ok, Err}
use Rattle.registry_disposition.specs.Numbers.{value}
use Rattle.events.specs.Members.{rule_of}
use Rattle.registry_error.specs.declared.RegistryRejection.{RegistryRejection}
use Rattle.registry_error.specs.declared.RegistryRejection.TheVariants as R
use Rattle.registry_disposition.specs.declared.EvidenceKind.TheVariants as E
use Rattle.registry_disposition.specs.declared.Disposition.{Disposition}
use Rattle.registry_disposition.specs.declared.Disposition.TheVariants.{Terminal, Contested, Awaiting}
use Rattle.registry_disposition.specs.Dispositions.{out_of_order, letter_of}

-- the number of a refusal
abbrev pub number_of : RegistryRejection → ℕ
number_of R.Malformed = 1
number_of R.MissingRegistry = 2
number_of R.DuplicateInception = 3
number_of R.AlreadyIssued = 4
number_of R.MissingCredentialState = 5
number_of R.NotRegistryInception = 6
number_of R.NotManagementRotation = 7
number_of R.NotCredentialInception = 8
number_of R.NotCredentialTransition = 9
number_of R.InconsistentRegistry = 10
number_of R.NoBackersWithBackers = 11
number_of R.SimpleEventOnBackerRegistry = 12
number_of R.BackedEventOnBackerlessRegistry = 13
number_of R.RotationOnBackerlessRegistry = 14
number_of R.SequenceNumberOverflow = 15
number_of (R.OutOfOrder expected actual) = 16
number_of R.PriorDigestMismatch = 17
number_of R.MissingIssuer = 18
number_of R.InconsistentIssuer = 19
number_of R.MissingAnchor = 20
number_of R.InconsistentAnchor = 21
number_of R.InconsistentManagement = 22
number_of (R.UnresolvedAnchor s) = 23
number_of (R.BackerSet rule at) = 24
number_of R.TooManyBackers = 25
number_of R.BackerThreshold = 26
number_of (R.MissingBackerReceipts valid required) = 27
number_of R.InconsistentCredential = 28
number_of R.NoRoom = 29
number_of R.ShortBuffer = 30

-- what the sender is to do: another try is worth it where more evidence can change the answer
abbrev pub disposition_of : RegistryRejection → Disposition
disposition_of R.Malformed = Terminal
disposition_of R.MissingRegistry = Awaiting E.RegistryState
disposition_of R.DuplicateInception = Contested
disposition_of R.AlreadyIssued = Contested
disposition_of R.MissingCredentialState = Awaiting E.CredentialTelState
disposition_of R.NotRegistryInception = Terminal
disposition_of R.NotManagementRotation = Terminal
disposition_of R.NotCredentialInception = Terminal
disposition_of R.NotCredentialTransition = Terminal
disposition_of R.InconsistentRegistry = Terminal
disposition_of R.NoBackersWithBackers = Terminal
disposition_of R.SimpleEventOnBackerRegistry = Terminal
disposition_of R.BackedEventOnBackerlessRegistry = Terminal
disposition_of R.RotationOnBackerlessRegistry = Terminal
disposition_of R.SequenceNumberOverflow = Terminal
disposition_of (R.OutOfOrder expected actual) = out_of_order expected actual
disposition_of R.PriorDigestMismatch = Terminal
disposition_of R.MissingIssuer = Awaiting E.IssuerState
disposition_of R.InconsistentIssuer = Terminal
disposition_of R.MissingAnchor = Awaiting E.KelAnchor
disposition_of R.InconsistentAnchor = Terminal
disposition_of R.InconsistentManagement = Terminal
disposition_of (R.UnresolvedAnchor s) = Awaiting (E.TelAnchor s)
disposition_of (R.BackerSet rule at) = Terminal
disposition_of R.TooManyBackers = Terminal
disposition_of R.BackerThreshold = Terminal
disposition_of (R.MissingBackerReceipts valid required) = Awaiting (E.BackerReceipts valid required)
disposition_of R.InconsistentCredential = Terminal
disposition_of R.NoRoom = Terminal
disposition_of R.ShortBuffer = Terminal

-- the values that a refusal gives
abbrev pub details_of : RegistryRejection → List ℕ
details_of R.Malformed = []
details_of R.MissingRegistry = []
details_of R.DuplicateInception = []
details_of R.AlreadyIssued = []
details_of R.MissingCredentialState = []
details_of R.NotRegistryInception = []
details_of R.NotManagementRotation = []
details_of R.NotCredentialInception = []
details_of R.NotCredentialTransition = []
details_of R.InconsistentRegistry = []
details_of R.NoBackersWithBackers = []
details_of R.SimpleEventOnBackerRegistry = []
details_of R.BackedEventOnBackerlessRegistry = []
details_of R.RotationOnBackerlessRegistry = []
details_of R.SequenceNumberOverflow = []
details_of (R.OutOfOrder expected actual) = value expected ∷ value actual ∷ []
details_of R.PriorDigestMismatch = []
details_of R.MissingIssuer = []
details_of R.InconsistentIssuer = []
details_of R.MissingAnchor = []
details_of R.InconsistentAnchor = []
details_of R.InconsistentManagement = []
details_of (R.UnresolvedAnchor s) = value s ∷ []
details_of (R.BackerSet rule at) = rule_of rule ∷ at ∷ []
details_of R.TooManyBackers = []
details_of R.BackerThreshold = []
details_of (R.MissingBackerReceipts valid required) = valid ∷ required ∷ []
details_of R.InconsistentCredential = []
details_of R.NoRoom = []
details_of R.ShortBuffer = []

-- an answer: the attempt is accepted, or refused for a reason
abbrev pub Answer : Type 0
Answer = Result Unit RegistryRejection

-- an answer's number and letter: 0 and A where the attempt is accepted
abbrev pub answer_number : Answer → ℕ
answer_number (Ok u) = 0
answer_number (Err r) = number_of r

abbrev pub answer_letter : Answer → ℕ
answer_letter (Ok u) = 65
answer_letter (Err r) = letter_of (disposition_of r)
