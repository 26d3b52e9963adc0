-- Evidence by its kind.
--     wrong-kind, wrong-prefix, by-anchor   18 to 21 made one after the other
use mathlib.Core.Path.{◌≡◌, sym}
use mathlib.Core.List.{List, [], ◌∷◌}
use mathlib.Core.Bool.{true, false}
use Rattle.cesr.specs.declared.Matter.{Matter}
use Rattle.registry_wire.specs.Attempts.{Evidence}
use Rattle.registry_error.specs.Errors.{Answer}
use Rattle.std.proofs.Common.{Ok, Err}
use Rattle.registry_error.specs.declared.RegistryRejection.{RegistryRejection}
use Rattle.registry_error.specs.declared.RegistryRejection.TheVariants.{InconsistentIssuer}
use Rattle.registry_answer.specs.Answers.{accept_if, first_of}
use Rattle.registry_answer.proofs.AnswerLaws.{or-nothing}
use Rattle.registry_authentication.specs.Issuers.{issuer_kind, names_issuer}

-- 18 or 19, then the prefix, then the anchoring event: the first that refuses is the answer
module _ (e : Evidence) (i : Matter) (last : Answer) where
  abbrev checks : List Answer
  checks = issuer_kind e ∷ (accept_if (names_issuer e i) InconsistentIssuer ∷ (last ∷ []))

  pub wrong-kind : (r : RegistryRejection) → issuer_kind e ≡ Err r → Err r ≡ first_of checks
  unfolding first_of
  wrong-kind r k = rw k

  pub wrong-prefix : issuer_kind e ≡ Ok tt → names_issuer e i ≡ false → Err InconsistentIssuer ≡ first_of checks
  unfolding first_of accept_if
  wrong-prefix k n = rw (k, n)

  pub by-anchor : issuer_kind e ≡ Ok tt → names_issuer e i ≡ true → last ≡ first_of checks
  unfolding first_of accept_if
  by-anchor k n = rw (k, n) (sym (or-nothing last))
