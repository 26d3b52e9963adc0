use mathlib.Core.Path.{◌≡◌, refl, ap, ◌∙◌}
use Rattle.ledger_step.specs.Ledgers.{look_up}
use Rattle.ledger_step.specs.Refusals.{refusal_of}
use Rattle.ledger_image.specs.Images.{image_of}
use Rattle.ledger_table.specs.Tables.{view_ledger, ledger_after}
use Rattle.images.specs.Judgement.{key_in}
use Rattle.images.proofs.Laws.{key-read, registries-counted, rows-counted, answer-kept, facts-found}
use Rattle.images.proofs.answer.answer.Goals as goal

pub returns : goal.returns
returns c =
    let z = c.args in
    let t = c.unwrap_or-held.result in
    let e = z.first.now in
    let f = c.look_up-found.ensures ∙ ap (look_up (view_ledger t)) (key-read e c.read.result c.read-2.result c.read.ensures c.read-2.ensures) in
    let after : view_ledger t ≡ ledger_after (image_of z.image.now) (view_ledger z.ledger) = rw c.unwrap_or-held.ensures c.read_image-read.ensures.ledger in
    record { facts = facts-found (image_of z.image.now) (view_ledger z.ledger) (view_ledger t) (key_in e) z.out.now z.other.now _ _ _ c.written-w.result _ _ _ _ (ap refusal_of c.and.ensures ∙ answer-kept _ _ refl ∙ c.read_image-read.ensures.number) after (registries-counted t) (rows-counted t) c.written-w.ensures c.is_short-short.ensures refl refl f; ledger = after }
