use Prim.Native.Nat.{ℕ, ◌≤◌, min}
use mathlib.Core.Path.{◌≡◌, refl, ap, ◌∙◌}
use mathlib.Core.Bool.{false}
use mathlib.Core.List.{List}
use native.Mathlib.Omega.{arith}
use lib.ListN.{length, get_or-replicate}
use Rattle.codec_cursor.specs.Readers.{placed, times}
use Rattle.registry_signatures.specs.SignatureSections.{read_signature, signatures_in}
use Rattle.registry_signatures.specs.declared.Signature.{Signature}
use Rattle.registry_verification.specs.Receipts.{receipts, Marks, marked}
use Rattle.registry_verification.proofs.Marked.{Marked, no-marks, marked-set, marked-twice, marked-bad, receipts-below, walk_turn}
use Rattle.registry_verification.proofs.verification.valid_receipts.Goals as goal
use Rattle.registry_verification.proofs.verification.valid_receipts.Goals.{then-good+then-not-seen-at, else-good, else-good-via-then-good+else-not-seen-at, else-good-via-else-good}

-- there are no more marks than backers
few : (n : ℕ) (m : Marks) (l : List Signature) → Marked n m l → n ≤ 16 → m.valid ≤ 16
few n m l h b = omega (arith, h.valid, receipts-below n l)

pub loop-i-init : goal.loop-i-init
unfolding times
loop-i-init c = (omega (arith, c.at_most_16-n.ensures), refl, no-marks _ _ (λ k b. get_or-replicate 16 k false false (omega (arith, c.at_most_16-n.ensures))), refl)

pub overflow_add-valid : goal.overflow_add-valid
overflow_add-valid c = omega (arith, few _ _ _ c.loop-i.invariant.2 c.loop-i.invariant.0)

pub loop-i-preserved : goal.loop-i-preserved
loop-i-preserved c =
    let l = c.loop-i in
    let v = l.invariant in
    let n = c.at_most_16-n.result in
    let x : Signature = c.read_signature-x.result.value in
    let m : Marks = record { seen = l.seen; valid = l.valid } in
    let room : n ≤ length l.seen = omega (arith, v.0, v.3) in
    let turn = λ (next : Marks) (g : next ≡ marked n m x). walk_turn n c.args.s.now _ l._i l.c m next _ v.1 c.read_signature-x.ensures v.2 room g in
    elim c.if-good.branch [
      | then-good+then-not-seen-at w ↦
          let k = turn _ (marked-set n m x w.if-good.true w.if-not-seen-at.true) in
          rw (w.seen-is, w.valid-is) (v.0, k.0, k.1, k.2 ∙ v.3)
      | else-good w ↦
          elim w.else-good.branch [
            | else-good-via-then-good+else-not-seen-at u ↦
                let k = turn _ (marked-twice n m x u.if-good.true u.if-not-seen-at.false) in
                rw (w.seen-is, w.valid-is) (v.0, k.0, k.1, k.2 ∙ v.3)
            | else-good-via-else-good u ↦
                let k = turn _ (marked-bad n m x u.if-good.false) in
                rw (w.seen-is, w.valid-is) (v.0, k.0, k.1, k.2 ∙ v.3)
          ]
    ]

pub returns : goal.returns
unfolding signatures_in
returns c =
    let l = c.loop-i in
    let a = c.args in
    let e : l._i ≡ a.signatures.count = omega arith in
    let start = placed a.signatures.from in
    l.invariant.2.valid
    ∙ ap (λ (n : ℕ). receipts n (times l._i read_signature a.s.now start).value) c.at_most_16-n.ensures
    ∙ ap (λ (j : ℕ). receipts (min a.backers 16) (times j read_signature a.s.now start).value) e
