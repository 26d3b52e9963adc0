-- Refusal 24 in a chain of checks: the element at its position breaks its rule.
--     other-placed, if-placed     so of a check that has another refusal
--     or-placed, all_placed       so of a chain where it is so of its checks
--     cond-placed                 so of a choice where it is so of both sides
--     check-placed, else-placed   so of the rules on lists
use Prim.Native.Nat.{ℕ}
use mathlib.Core.Path.{◌≡◌, refl, ap}
use mathlib.Core.List.{List, [], ◌∷◌}
use mathlib.Core.Bool.{Bool, true, false, cond}
use native.Mathlib.Omega.{arith}
use borrow.Author.Tests.{eqb-false}
use lib.Dec.{eqb}
use Rattle.std.specs.Prelude.{Ok, Err}
use Rattle.events.specs.Members.{Membership, broken, check, or_else as else_set, Lists, subject, against, Offends}
use Rattle.events.specs.declared.Rule.{Rule}
use Rattle.events.proofs.MemberLaws.{broken-rule, broken-below, broken-breaks}
use Rattle.registry_answer.specs.Answers.{accept_if, backer_set, or_else, first_of}
use Rattle.registry_error.specs.Errors.{number_of, answer_number}
use Rattle.registry_error.specs.Errors.{Answer}
use Rattle.std.proofs.Common.{Ok, Err}
use Rattle.registry_error.specs.declared.RegistryRejection.{RegistryRejection}
use Rattle.registry_error.specs.declared.RegistryRejection.TheVariants.{BackerSet}
use Rattle.registry.specs.Starred.{All}

-- where an answer is refusal 24, the element at the position breaks the rule
abbrev pub Placed : Lists → Answer → Type 0
Placed s x = (rule : Rule) (i : ℕ) → x ≡ Err (BackerSet rule i) → Offends (broken rule i) s

set-broken : (x : Membership) (rule : Rule) (i : ℕ) → backer_set x ≡ Err (BackerSet rule i) → x ≡ broken rule i
set-broken (Ok u) rule i e = absurd (omega (arith, ap answer_number e))
set-broken (Err b) rule i e =
    let r : b.rule ≡ rule = cc in
    let p : b.at ≡ i = cc in
    rw (← r, ← p)

module _ (s : Lists) where
  pub other-placed : (x : Answer) → eqb (answer_number x) 24 ≡ false → Placed s x
  other-placed x n rule i e = absurd (eqb-false (answer_number x) 24 n (ap answer_number e))

  pub if-placed : (t : Bool) (r : RegistryRejection) → eqb (number_of r) 24 ≡ false → Placed s (accept_if t r)
  unfolding accept_if
  if-placed true r n = other-placed (Ok tt) refl
  if-placed false r n = other-placed (Err r) n

  pub or-placed : (x y : Answer) → Placed s x → Placed s y → Placed s (or_else x y)
  or-placed (Ok u) y p q = q
  or-placed (Err r) y p q = p

  pub cond-placed : {A : Type 0} (answer : A → Answer) (t : Bool) (x y : A) → Placed s (answer x) → Placed s (answer y) → Placed s (answer (cond t x y))
  cond-placed answer true x y p q = p
  cond-placed answer false x y p q = q

  pub all_placed : (l : List Answer) → All (Placed s) l → Placed s (first_of l)
  unfolding first_of
  all_placed [] p = other-placed (Ok tt) refl
  all_placed (x ∷ l) p = or-placed x (first_of l) p.0 (all_placed l p.1)

  pub check-placed : (r : Rule) → Placed s (backer_set (check r (subject r s) (against r s)))
  unfolding Offends
  check-placed r rule i e =
      let b = set-broken (check r (subject r s) (against r s)) rule i e in
      rw (broken-rule r (subject r s) (against r s) rule i b)
      (broken-below r (subject r s) (against r s) rule i b, broken-breaks r (subject r s) (against r s) rule i b)

  pub else-placed : (a b : Membership) → Placed s (backer_set a) → Placed s (backer_set b) → Placed s (backer_set (else_set a b))
  else-placed (Ok u) b p q = q
  else-placed (Err x) b p q = p
