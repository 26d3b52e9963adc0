-- What the folds over bytes share: a state in its bytes, and what a call answers and leaves in `next` (docs/RULES.md, "Host's calls").
use Rattle.std.specs.Prelude.{ℕ, cond, ◌&&◌, List, [], eqb, leb, length}
use Rattle.std.proofs.Math.Option.{Option, none, some}
use Rattle.std.proofs.lemmas.List.Edits.{sets}
use Rattle.cesr.specs.Primitives.{read_matter}
use Rattle.codec_cursor.specs.Readers.{starting}
use Rattle.codec_cursor.specs.declared.Read.{Read}
use Rattle.registry_head.specs.HeadBytes.{head_bytes}
use Rattle.registry_head.specs.declared.HeadPlaces.{HeadPlaces}
use Rattle.registry_room.specs.NextStates.{next_bytes}
use Rattle.registry_room.specs.declared.NextState.{NextState}
use Rattle.registry_state.specs.States.{Registry, registry_bytes, read_registry}
use Rattle.registry_state_credential.specs.CredentialStates.{credential_bytes}
use Rattle.registry_error.specs.declared.RegistryRejection.TheVariants.{Malformed, ShortBuffer}
use Rattle.registry_error.specs.Errors.{Answer}
use Rattle.std.specs.Prelude.{Ok, Err}
use Rattle.registry_error.specs.Errors.{answer_number}
use Rattle.registry_answer.specs.Answers.{accepts, accept_if, or_else}
use Rattle.registry_inception.specs.InceptionFolds as N
use Rattle.registry_issue.specs.IssueFolds as I
use Rattle.host_report.specs.Reports.{sized_report}

-- the state that bytes are, where they are one and nothing else
abbrev pub whole_of : {A : Type 0} → List ℕ → Read A → Option A
whole_of s r = cond (r.next.ok && eqb r.next.at (length s)) (some r.value) none

unfoldable pub registry_in : List ℕ → Option Registry
registry_in s = whole_of s (read_registry s starting)

-- a fold's answer, and the bytes of the state behind it
pub record Folded : Type 0 where
  pub answer : Answer
  pub bytes : List ℕ

abbrev pub registry_folded : N.Outcome → Folded
registry_folded o = record { answer = o.answer; bytes = registry_bytes o.state }

abbrev pub credential_folded : I.Outcome → Folded
credential_folded o = record { answer = o.answer; bytes = credential_bytes o.state }

-- a fold that accepts, and the bytes of a next state that is made from bytes
abbrev pub next_folded : List ℕ → List ℕ → NextState → Folded
next_folded held s p = record { answer = (Ok tt); bytes = next_bytes held s p }

-- the same of a credential state, whose primitives stand at places in the two lists
abbrev pub credential_copied : List ℕ → List ℕ → HeadPlaces → Folded
credential_copied held s h =
    record { answer = (Ok tt); bytes = head_bytes (read_matter held h.first) (read_matter held h.second) h.sn (read_matter s h.last) }

-- 1 before everything: bytes that are handed in as a state and are none
abbrev pub no_state : Folded
no_state = record { answer = Err Malformed; bytes = [] }

-- the answer of a call: the fold's, then 30, where `next` is shorter than the state's bytes
unfoldable pub answer_in : Folded → List ℕ → Answer
answer_in f next = or_else f.answer (accept_if (leb (length f.bytes) (length next)) ShortBuffer)

-- what comes out of a call: its number, its report, and `next`
pub record Called : Type 0 where
  pub number : ℕ
  pub report : List ℕ
  pub next : List ℕ

abbrev pub called : ℕ → List ℕ → List ℕ → Called
called number report next = record { number = number; report = report; next = next }

-- acceptance stores the state's bytes from the start of `next` on; a refusal leaves it as it was
unfoldable pub call_of : Folded → List ℕ → Called
call_of f next =
    let a = answer_in f next in
    record { number = answer_number a; report = sized_report a (length f.bytes); next = cond (accepts a) (sets next 0 f.bytes) next }
