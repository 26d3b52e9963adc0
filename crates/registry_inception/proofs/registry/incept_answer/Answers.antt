use mathlib.Core.Path.{◌∙◌}
use Rattle.registry_answer.proofs.AnswerLaws.{handed-on}
use Rattle.registry_inception.specs.InceptionFolds.{incept_answer}
use Rattle.registry_inception.proofs.InceptionLaws.{vcp-kind, other-kind}
use Rattle.registry_inception.proofs.registry.incept_answer.Goals as goal

pub returns-in_err-issuer_kind : goal.returns-in_err-issuer_kind
unfolding incept_answer
returns-in_err-issuer_kind c =
    handed-on _ _ c.from_residual.ensures.1 ∙ rw (← c.in_err-issuer_kind.ensures c.args.s.now)

pub returns-in-Vcp : goal.returns-in-Vcp
unfolding incept_answer
returns-in-Vcp c =
    rw (← c.in_ok-issuer_kind.ensures c.args.s.now) (c.vcp_answer.ensures ∙ vcp-kind _ _ c.args.a.now.event _ c.in-Vcp.is)

pub returns-in_default : goal.returns-in_default
unfolding incept_answer
returns-in_default c =
    rw (← c.in_ok-issuer_kind.ensures c.args.s.now) (other-kind _ _ c.args.a.now.event _ c.in_default.not-Vcp)
