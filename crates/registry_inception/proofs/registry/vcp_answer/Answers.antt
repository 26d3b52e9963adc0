use mathlib.Core.Path.{◌≡◌, sym, ◌∙◌}
use native.Mathlib.Omega.{arith}
use Rattle.registry_answer.specs.Answers.{accept_if, first_of}
use Rattle.registry_answer.proofs.AnswerLaws.{handed-on, or-nothing}
use Rattle.registry_authentication.proofs.AnchorUse.{message-in}
use Rattle.laws.specs.Number.{Bytes}
use Prim.Native.Nat.{min}
use Rattle.events_tel.specs.TelEvents.{sn_zero}
use Rattle.registry_inception.specs.InceptionFolds.{vcp_answer}
use Rattle.registry_inception.proofs.InceptionLaws.{listed-size}
use Rattle.registry_inception.proofs.registry.vcp_answer.Goals as goal

pub returns-then-not-names_issuer : goal.returns-then-not-names_issuer
unfolding vcp_answer first_of accept_if
returns-then-not-names_issuer c =
    rw (← c.read-issuer.ensures, ← c.if-not-names_issuer.ensures)

pub returns-then-no_backers-count : goal.returns-then-no_backers-count
unfolding vcp_answer first_of accept_if
returns-then-no_backers-count c =
    rw (← c.read-issuer.ensures, ← c.if-not-names_issuer.ensures, listed-size, ← c.at_most_16-count.ensures, ← c.no_backers.ensures, c.if-no_backers-count.true)

pub returns-in_err-check_members : goal.returns-in_err-check_members
unfolding vcp_answer first_of accept_if
returns-in_err-check_members c =
    handed-on _ _ c.from_residual.ensures.1
    ∙ rw (← c.read-issuer.ensures, ← c.if-not-names_issuer.ensures, listed-size, ← c.at_most_16-count.ensures, ← c.no_backers.ensures, c.if-no_backers-count.false, ← c.in_err-check_members.ensures.answer)

pub returns-in_err-threshold_fits : goal.returns-in_err-threshold_fits
unfolding vcp_answer first_of accept_if
returns-in_err-threshold_fits c =
    handed-on _ _ c.from_residual-in_err-threshold_fits.ensures.1
    ∙ rw (← c.read-issuer.ensures, ← c.if-not-names_issuer.ensures, listed-size, ← c.at_most_16-count.ensures, ← c.no_backers.ensures, c.if-no_backers-count.false, ← c.in_ok-check_members.ensures.answer, ← c.in_err-threshold_fits.ensures)

pub returns-in_err-message_anchored : goal.returns-in_err-message_anchored
unfolding vcp_answer first_of accept_if
returns-in_err-message_anchored c =
    let q = c.args in
    let b : Bytes q.s.now = λ i. omega (arith, c.type_inv.s i) in
    let sealed = rw (← c.read-said.ensures) at (c.in_err-message_anchored.ensures ∙ message-in q.s.now q.a.now c.read-issuer.result c.read-said.result sn_zero _ b c.requires) in
    handed-on _ _ c.from_residual-in_err-message_anchored.ensures.1
    ∙ rw (← c.read-issuer.ensures, ← c.read-said.ensures, ← c.if-not-names_issuer.ensures, listed-size, ← c.at_most_16-count.ensures, ← c.no_backers.ensures, c.if-no_backers-count.false, ← c.in_ok-check_members.ensures.answer, ← c.in_ok-threshold_fits.ensures, ← sealed)

pub returns : goal.returns
unfolding vcp_answer first_of accept_if
returns c =
    let q = c.args in
    let b : Bytes q.s.now = λ i. omega (arith, c.type_inv.s i) in
    let sealed = rw (← c.read-said.ensures) at (c.in_ok-message_anchored.ensures ∙ message-in q.s.now q.a.now c.read-issuer.result c.read-said.result sn_zero _ b c.requires) in
    let few : min c.at_most_16-count.result 16 ≡ c.at_most_16-count.result = omega arith in
    rw (← c.read-issuer.ensures, ← c.read-said.ensures, ← c.if-not-names_issuer.ensures, listed-size, ← c.at_most_16-count.ensures, ← c.no_backers.ensures, c.if-no_backers-count.false, ← c.in_ok-check_members.ensures.answer, ← c.in_ok-threshold_fits.ensures, ← sealed, c.enough_receipts.ensures, few) (sym (or-nothing _))
