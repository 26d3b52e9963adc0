use mathlib.Core.Path.{◌≡◌, sym, ◌∙◌}
use mathlib.Core.Bool.{false, and-false}
use borrow.Author.Tests.{ne_eqb}
use lib.Dec.{eqb}
use Rattle.cesr.specs.Primitives.{eq_matter}
use Rattle.cesr.specs.declared.Matter.{Matter}
use Rattle.ledger_rows.proofs.rows.has_key.Goals as goal

-- another first word is another key
other-matter : (a b : Matter) → (a.w0 ≡ b.w0 → ⊥) → eq_matter a b ≡ false
unfolding eq_matter
other-matter a b h = rw (ne_eqb a.w0 b.w0 h, and-false (eqb a.code b.code))

pub returns-else-w-credential : goal.returns-else-w-credential
returns-else-w-credential c =
    let a = c.args in
    let other = c.if-w-credential.false in
    ne_eqb _ _ other ∙ sym (rw (other-matter a.w.now.credential.0 a.credential.0 other) (and-false _))
