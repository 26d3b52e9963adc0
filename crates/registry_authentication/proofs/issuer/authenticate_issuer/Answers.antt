use mathlib.Core.Path.{sym, ◌∙◌}
use Rattle.registry_answer.proofs.AnswerLaws.{handed-on}
use Rattle.registry_authentication.specs.Issuers.{authenticate_in}
use Rattle.registry_authentication.proofs.EvidenceLaws.{wrong-kind, wrong-prefix, by-anchor}
use Rattle.registry_authentication.proofs.issuer.authenticate_issuer.Goals as goal

pub returns-in_err-issuer_kind : goal.returns-in_err-issuer_kind
unfolding authenticate_in
returns-in_err-issuer_kind c =
    handed-on _ _ c.from_residual.ensures.1 ∙ wrong-kind _ _ _ _ (sym (c.in_err-issuer_kind.ensures c.args.s.now))

pub returns-then-not-names_issuer : goal.returns-then-not-names_issuer
unfolding authenticate_in
returns-then-not-names_issuer c =
    wrong-prefix _ _ _ (sym (c.in_ok-issuer_kind.ensures c.args.s.now)) (sym c.if-not-names_issuer.ensures)

pub returns : goal.returns
unfolding authenticate_in
returns c =
    rw (c.verify_kel_anchor.ensures, c.stated.ensures, c.read-said.ensures, c.bytes-2.ensures, c.bytes.ensures, c.carried.ensures)
    (by-anchor _ _ _ (sym (c.in_ok-issuer_kind.ensures c.args.s.now)) (sym c.if-not-names_issuer.ensures))
