use Rattle.std.proofs.Common.{◌≡◌, ℕ, ◌-◌, List, sym, ap, ◌∙◌, arith}
use Rattle.std.proofs.Math.Seq.{sets}
use Rattle.ledger_text.proofs.Decimals.{spelled, decimal-spelled, digit-put}
use Rattle.ledger_text.proofs.text.put_decimal.Goals as goal

pub loop-i-preserved : goal.loop-i-preserved
loop-i-preserved c =
    let l = c.loop-i in
    digit-put l.out c.args.at (l.i - 1) l.i l.rest (omega arith) ∙ l.invariant

pub returns : goal.returns
unfolding spelled
returns c =
    let a = c.args in
    let l = c.loop-i in
    let z : l.i ≡ 0 = omega arith in
    let e : sets l.out a.at (spelled 0 l.rest) ≡ sets a.out.now a.at (spelled a.k a.n) = rw z at l.invariant in
    e ∙ ap (λ (d : List ℕ). sets a.out.now a.at d) (ap (λ (j : ℕ). spelled j a.n) c.requires.k_value ∙ sym (decimal-spelled a.n))
