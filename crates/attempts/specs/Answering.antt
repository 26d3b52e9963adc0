-- What the program prints, over the ledger's step (docs/RULES.md, "What the program prints").
use Rattle.std.specs.Prelude.{ℕ, List, []}
use Rattle.registry_error.specs.Errors.{answer_number, answer_letter}
use Rattle.ledger_step.specs.Ledgers.{Ledger}
use Rattle.ledger_step.specs.Steps.{step_of}
use Rattle.ledger_image.specs.Images.{ledger_of}
use Rattle.ledger_text.specs.Lines.{line_bytes}
use Rattle.ledger_frames.specs.Printed.{Answering, printed_of}

-- an attempt's number and letter, the ledger after it, and how many registries and rows a ledger holds
abbrev pub next_of : Ledger → List ℕ → Ledger
next_of l a = (step_of l a).ledger

abbrev pub answering : Answering Ledger
answering =
    record
    { number = λ l a. answer_number (step_of l a).answer; letter = λ l a. answer_letter (step_of l a).answer; next = next_of; registries = λ l. l.registry_count; credentials = λ l. l.row_count }

-- the line of an attempt at a position
abbrev pub line_of : Ledger → ℕ → List ℕ → List ℕ
line_of l position a = line_bytes position (answering.number l a) (answering.letter l a)

-- the whole output for an input
abbrev pub output_of : List ℕ → List ℕ
output_of s = printed_of answering (ledger_of [] []) s
