use Rattle.codec.specs.declared.Cursor.{Cursor}
use Prim.Native.Nat.{ℕ}
use mathlib.Core.Path.{refl, ap, ◌∙◌}
use native.Mathlib.Omega.{arith}
use Rattle.codec.specs.Readers.{times, section}
use Rattle.codec.proofs.Loops.{times-next}
use Rattle.registry_signatures.specs.SignatureSections.{read_signature, passed_signatures}
use borrow.Author.Rules.{rules}
use Rattle.registry_signatures.proofs.signatures.pass_signatures.Goals as goal

pub loop-i-init : goal.loop-i-init
unfolding times
loop-i-init c = (search rules, refl)

pub loop-i-preserved : goal.loop-i-preserved
loop-i-preserved c =
    (search rules, times-next read_signature _ _ _ _ _ c.loop-i.invariant.1 c.read_signature-signature.ensures)

pub returns : goal.returns
unfolding passed_signatures section
returns c =
    let l = c.loop-i in
    let n = c.count_up_to-n in
    let a = c.args in
    rw (← n.ensures)
    (ap (λ (d : Cursor). record { value = record { from = n.result.next.at; count = n.result.value }; next = d })
    (l.invariant.1 ∙ ap (λ (k : ℕ). (times k read_signature a.s.now n.result.next).next) (omega arith)))
