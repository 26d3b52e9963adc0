-- What the calls over bytes leave.
--     no-state        bytes that are no state
--     stored, kept    an answer that accepts, and one that refuses
--     next-left       a fold that accepts, and a writer of its state that tests for room
--     refused         a fold that refuses, whatever its state
--     is-accepted     an answer that accepts
use Prim.Native.Nat.{ℕ}
use mathlib.Core.Path.{◌≡◌, refl, ap, sym, ◌∙◌}
use mathlib.Core.Bool.{Bool, true, false, false≢true}
use mathlib.Core.List.{List}
use native.Mathlib.Nat.{zero-add}
use native.Mathlib.Omega.{arith}
use borrow.Author.Tests.{leb-true, leb-false}
use lib.Dec.{leb}
use lib.ListN.{length}
use lib.Seq.{sets}
use Rattle.laws.specs.Room.{room, put}
use Rattle.laws.proofs.Room.{put-sets, put-none}
use Rattle.registry_error.specs.declared.RegistryRejection.TheVariants.{Malformed, ShortBuffer}
use Rattle.registry_error.specs.Errors.{Answer}
use Rattle.std.proofs.Common.{Ok, Err}
use Rattle.registry_error.specs.Errors.{answer_number}
use Rattle.registry_answer.specs.Answers.{accepts, accept_if, or_else}
use Rattle.registry_answer.proofs.AnswerLaws.{or-second, passed}
use Rattle.host_report.specs.Reports.{rejection_report, answer_report, sized_report}
use Rattle.host_next.specs.ByteFolds.{Folded, no_state, answer_in, called, call_of}

pub no-state : (f : Folded) (n : ℕ) (report next : List ℕ) → f ≡ no_state → (n ≡ 1) × (report ≡ rejection_report Malformed) → called n report next ≡ call_of f next
unfolding call_of answer_in
no-state f n report next e h = rw (e, h.0, h.1)

module _ (f : Folded) (next : List ℕ) (a : Answer) (size n : ℕ) (report : List ℕ) (e : a ≡ or_else f.answer (accept_if (leb size (length next)) ShortBuffer)) (g : size ≡ length f.bytes) (h : (n ≡ answer_number a) × (report ≡ sized_report a size)) where
  pub stored : (left : List ℕ) → accepts a ≡ true → left ≡ put next 0 f.bytes → called n report left ≡ call_of f next
  unfolding call_of answer_in
  stored left t p =
      let room = leb-true size (length next) (passed _ _ (or-second f.answer _ (ap accepts (sym e) ∙ t))) in
      let q : put next 0 f.bytes ≡ sets next 0 f.bytes = put-sets next 0 size f.bytes (sym g) (omega (arith, room)) in
      rw (h.0, h.1, p, q, ← g, ← e, t)

  pub kept : accepts a ≡ false → called n report next ≡ call_of f next
  unfolding call_of answer_in
  kept t = rw (h.0, h.1, ← g, ← e, t)

pub refused : (f : Folded) (next : List ℕ) (x : Answer) (n : ℕ) (report : List ℕ) → x ≡ f.answer → accepts x ≡ false → (n ≡ answer_number x) × (report ≡ answer_report x) → called n report next ≡ call_of f next
unfolding call_of answer_in
refused f next (Ok u) n report e t h = absurd (false≢true (sym t))
refused f next (Err r) n report e t h = rw (h.0, h.1, ← e)

pub is-accepted : (x : Answer) → accepts x ≡ true → (Ok tt) ≡ x
is-accepted (Ok u) h = refl
is-accepted (Err r) h = absurd (false≢true h)

next-left-by : (bytes next left : List ℕ) (size n : ℕ) (report : List ℕ) (t : Bool) → leb (length bytes) (length next) ≡ t → size ≡ length bytes → (n ≡ answer_number (accept_if t ShortBuffer)) × (report ≡ sized_report (accept_if t ShortBuffer) size) → left ≡ put next 0 bytes → called n report left ≡ call_of (record { answer = (Ok tt); bytes = bytes }) next
unfolding call_of answer_in accept_if
next-left-by bytes next left size n report true e g h p =
    rw (h.0, h.1, p, put-sets next 0 (length bytes) bytes refl (omega (arith, leb-true (length bytes) (length next) e)), g, e)
next-left-by bytes next left size n report false e g h p =
    rw (h.0, h.1, p, put-none next 0 (length bytes) bytes refl (omega (arith, leb-false (length bytes) (length next) e)), e)

pub next-left : (bytes next left : List ℕ) (size n : ℕ) (report : List ℕ) (a : Answer) (t : Bool) → t ≡ room next 0 (length bytes) → a ≡ accept_if t ShortBuffer → size ≡ length bytes → (n ≡ answer_number a) × (report ≡ sized_report a size) → left ≡ put next 0 bytes → called n report left ≡ call_of (record { answer = (Ok tt); bytes = bytes }) next
unfolding room
next-left bytes next left size n report a t e f g h p =
    let z : leb (length bytes) (length next) ≡ t = ap (λ (k : ℕ). leb k (length next)) (sym (zero-add (length bytes))) ∙ sym e in
    next-left-by bytes next left size n report t z g (h.0 ∙ ap answer_number f, h.1 ∙ ap (λ (x : Answer). sized_report x size) f) p
