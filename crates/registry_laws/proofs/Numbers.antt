-- The sn of an event that comes behind a state.
--     behind   it is one more than the state's
use Prim.Native.Nat.{ℕ, ◌+◌, ◌-◌, ◌^◌, ◌<◌}
use mathlib.Core.Path.{◌≡◌, refl, ◌∙◌}
use mathlib.Core.Bool.{Bool, true, false, cond, false≢true}
use native.Mathlib.Omega.{arith}
use native.Mathlib.Decide.{dec_lt}
use borrow.Author.Tests.{eqb-true, eqb-false, ltb-true}
use lib.Dec.{eqb, ltb}
use Rattle.laws.proofs.Tests.{and_left, and_right}
use Rattle.cesr_sn.specs.Numbers.{value}
use Rattle.cesr_sn.specs.declared.Sn.{Sn}
use Rattle.cesr_sn.proofs.Words.{value-words, value-fits}
use Rattle.codec.specs.Layout.{good_sn}
use Rattle.registry_answer.specs.Answers.{accepts, accept_if}
use Rattle.std.proofs.Common.{Err}
use Rattle.registry_error.specs.declared.RegistryRejection.TheVariants.{SequenceNumberOverflow, OutOfOrder}
use Rattle.registry.specs.Sequence.{sn_behind, next_sn}
use Rattle.registry_answer.proofs.AnswerLaws.{passed}

good-below : (n : Sn) → good_sn n ≡ true → value n < 2 ^ 128
unfolding good_sn
good-below n h =
    let hi = ltb n.hi (2 ^ 64) in
    let lo = ltb n.lo (2 ^ 64) in
    value-fits n (ltb-true n.hi (2 ^ 64) (and_left hi lo h)) (ltb-true n.lo (2 ^ 64) (and_right hi lo h))

room-behind : (n k : ℕ) → n < k → (n ≡ k - 1 → ⊥) → n + 1 < k
room-behind n k b d = elim (dec_lt (n + 1) k) [ yes p ↦ p | no p ↦ absurd (d (omega arith)) ]

pub behind : (held sn : Sn) → good_sn held ≡ true → accepts (next_sn held sn) ≡ true → value sn ≡ value held + 1
unfolding next_sn
behind held sn g h = go (eqb (value held) (2 ^ 128 - 1)) refl h
  where
    go : (t : Bool) → eqb (value held) (2 ^ 128 - 1) ≡ t → accepts (cond t (Err SequenceNumberOverflow) (accept_if (eqb (value sn) (value (sn_behind held))) (OutOfOrder (sn_behind held) sn))) ≡ true → value sn ≡ value held + 1
    go true e h = absurd (false≢true h)
    go false e h =
        let b = room-behind (value held) (2 ^ 128) (good-below held g) (eqb-false (value held) (2 ^ 128 - 1) e) in
        eqb-true (value sn) (value (sn_behind held)) (passed (eqb (value sn) (value (sn_behind held))) (OutOfOrder (sn_behind held) sn) h) ∙ value-words (value held + 1) b
