-- Chains of checks, with the rules on the registry's own backers as a check of its own.
--     in_parts       a chain cut within one of its checks
--     issuer-own     they may stand behind an issuer's evidence, which asks about no backers
--     incept-parts   the answer to an issue: they stand behind the rest
use Prim.Native.Nat.{ℕ}
use mathlib.Core.Path.{◌≡◌, refl, sym, ap, ◌∙◌}
use mathlib.Core.List.{List, [], ◌∷◌, ◌++◌}
use mathlib.Core.Bool.{not}
use Rattle.cesr.specs.Primitives.{eq_said}
use Rattle.cesr_sn.specs.declared.Sn.{Sn}
use Rattle.cesr.specs.declared.Matter.{Matter}
use Rattle.cesr.specs.declared.Said.{Said}
use Rattle.cesr.specs.declared.BasicPrefix.{BasicPrefix}
use Rattle.events_tel.specs.TelEvents.{Event, sn_zero}
use Rattle.events_tel.specs.TelEvents.Event.{vcp, vrt, iss, rev, bis, brv}
use Rattle.events_seal.specs.declared.Seal.{Seal}
use Rattle.registry_management.specs.States.{Registry}
use Rattle.registry_signatures.specs.declared.Signature.{Signature}
use Rattle.registry_backer.specs.Attempts.{Message, Evidence}
use Rattle.registry_backer.specs.Attempts.Evidence.{missing, issuer, backer, backer_at}
use Rattle.registry_error.specs.Errors.{Answer}
use Rattle.std.proofs.Common.{Ok, Err}
use Rattle.registry_error.specs.declared.RegistryRejection.TheVariants.{InconsistentRegistry, SimpleEventOnBackerRegistry, BackedEventOnBackerlessRegistry}
use Rattle.registry_answer.specs.Answers.{accept_if, or_else, first_of}
use Rattle.registry_answer.proofs.AnswerLaws.{first-last}
use Rattle.registry_authentication.specs.Issuers.{issuer_kind, anchored, authenticate_issuer}
use Rattle.registry_backing.specs.Backings.{own_where}
use Rattle.registry_backer.specs.Backers.{is_backerless, authenticate_backer, resolved_backer, asks_own}
use Rattle.registry_backer.proofs.AuthorityLaws.{in-two-parts}
use Rattle.registry_issue.specs.IssueFolds.{iss_answer, bis_answer, incept_event}
use Rattle.registry_issue.specs.IssueParts.{bis_resolved, event_resolved}

cut : (d o z : Answer) → or_else (or_else d o) z ≡ or_else (or_else d (Ok tt)) (or_else o z)
cut (Ok u) o z = refl
cut (Err r) o z = refl

-- y, d with o behind it, stands behind l and before k
pub in_parts : (l : List Answer) (y d o : Answer) (k : List Answer) → y ≡ or_else d o → first_of (l ++ (y ∷ k)) ≡ or_else (first_of (l ++ (d ∷ []))) (first_of (o ∷ k))
unfolding first_of
in_parts [] y d o k e = rw e (cut d o (first_of k))
in_parts ((Ok u) ∷ l) y d o k e = in_parts l y d o k e
in_parts (Err r ∷ l) y d o k e = refl

module _ (toad : ℕ) (backers : List BasicPrefix) (l : List Signature) where
  kind-own : (e : Evidence) (rest : List Answer) → first_of (issuer_kind e ∷ rest) ≡ or_else (first_of (issuer_kind e ∷ rest)) (own_where (asks_own e) toad backers l)
  unfolding first_of own_where
  kind-own missing rest = refl
  kind-own (issuer prefix anchor) rest = sym (first-last (first_of rest))
  kind-own backer rest = refl
  kind-own (backer_at state) rest = refl

  pub issuer-own : (i : Matter) (id : Said) (sn : Sn) (said : Said) (m : Message) → authenticate_issuer i id sn said m ≡ or_else (authenticate_issuer i id sn said m) (own_where (asks_own m.evidence) toad backers l)
  unfolding authenticate_issuer
  issuer-own i id sn said m = kind-own m.evidence _

module _ (g : Registry) (m : Message) where
  abbrev own : Answer
  own = own_where (asks_own m.evidence) g.toad g.backers m.signatures

  iss-parts : (said credential registry : Said) → iss_answer g said credential registry m ≡ or_else (iss_answer g said credential registry m) own
  unfolding iss_answer
  iss-parts said credential registry =
      let last = authenticate_issuer g.issuer credential sn_zero said m in
      in_parts (accept_if (eq_said registry g.id) InconsistentRegistry ∷ accept_if (is_backerless g) SimpleEventOnBackerRegistry ∷ []) last last own [] (issuer-own g.toad g.backers m.signatures g.issuer credential sn_zero said m)
      ∙ ap (or_else (iss_answer g said credential registry m)) (first-last own)

  bis-parts : (said credential registry : Said) (seal : Seal) → bis_answer g said credential registry seal m ≡ or_else (bis_resolved g said credential registry seal m) own
  unfolding bis_answer bis_resolved
  bis-parts said credential registry seal =
      in_parts (accept_if (eq_said registry g.id) InconsistentRegistry ∷ accept_if (not (is_backerless g)) BackedEventOnBackerlessRegistry ∷ anchored g.issuer credential sn_zero said m.source m.anchor ∷ []) (authenticate_backer g seal m.evidence m.signatures) (resolved_backer g seal m.evidence m.signatures) own [] (in-two-parts g seal m.evidence m.signatures)
      ∙ ap (or_else (bis_resolved g said credential registry seal m)) (first-last own)

  pub incept-parts : (e : Event) → incept_event g e m ≡ or_else (event_resolved g e m) own
  incept-parts (vcp said i toad configs backers) = refl
  incept-parts (vrt said registry prior sn toad cuts additions) = refl
  incept-parts (iss said credential registry) = iss-parts said credential registry
  incept-parts (rev said credential registry prior) = refl
  incept-parts (bis said credential registry seal) = bis-parts said credential registry seal
  incept-parts (brv said credential prior seal) = refl
