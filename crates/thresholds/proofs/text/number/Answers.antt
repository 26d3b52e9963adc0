use Rattle.std.proofs.Common.{◌≡◌, ◌+◌, ◌∙◌, sym, rules, arith, length}
use borrow.Author.Tests.{ne_eqb}
use Rattle.thresholds.specs.Texts.{number_to, number_of, all_digits, value_of}
use Rattle.thresholds.proofs.Numbers.{number_step, number_stays}
use Rattle.thresholds.proofs.text.number.Goals as goal

pub loop-byte-init : goal.loop-byte-init
unfolding number_to all_digits value_of
loop-byte-init c = search rules

pub returns-in_err-n : goal.returns-in_err-n
unfolding number_of
returns-in_err-n c =
    let s = c.args.s.now in
    let i = c.loop-byte.byte-index in
    let full = ne_eqb (length s) 0 (omega arith) in
    let none = sym c.in_err-n.was ∙ c.with_digit.ensures ∙ number_step s i c.loop-byte.n c.loop-byte.invariant in
    rw (c.from_residual.ensures, full) (number_stays s (i + 1) (length s) none (omega arith))

pub loop-byte-preserved : goal.loop-byte-preserved
loop-byte-preserved c = sym c.in_ok-n.was ∙ c.with_digit.ensures ∙ number_step _ _ _ c.loop-byte.invariant

pub returns : goal.returns
unfolding number_of
returns c =
    let s = c.args.s.now in
    let end : c.loop-byte.byte-index ≡ length s = omega arith in
    rw (ne_eqb (length s) 0 (search rules)) (rw end at c.loop-byte.invariant)
