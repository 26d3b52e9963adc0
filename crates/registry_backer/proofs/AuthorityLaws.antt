-- The authority of a bis or brv, part by part.
--     event-seal     an event seal: 10, then by the evidence
--     other-seal     22 of another seal
--     unasked        evidence that is no Backer
--     in-two-parts   the registry's own backers, behind the rest
use Prim.Native.Nat.{ℕ}
use mathlib.Core.Path.{◌≡◌, refl, sym}
use mathlib.Core.List.{List, [], ◌∷◌}
use mathlib.Core.Bool.{Bool, true, false, cond, false≢true}
use Rattle.cesr.specs.Primitives.{eq_matter}
use Rattle.cesr.specs.declared.Said.{Said}
use Rattle.cesr_sn.specs.declared.Sn.{Sn}
use Rattle.events_seal.specs.Identifiers.{matter_of}
use Rattle.events_seal.specs.declared.Identifier.{Identifier}
use Rattle.events_seal.specs.declared.Seal.{Seal}
use Rattle.events_seal.specs.declared.Seal.TheVariants.{Digest, Root, Source, Event, Last, Back, Kind, Opaque}
use Rattle.registry_wire.specs.States.{Registry}
use Rattle.registry_signatures.specs.declared.Signature.{Signature}
use Rattle.registry_wire.specs.Attempts.{Evidence, evidence_in}
use Rattle.registry_wire.specs.declared.EvidenceAt.{EvidenceAt}
use Rattle.registry_wire.specs.declared.EvidenceAt.TheVariants as E
use Rattle.registry_wire.specs.Attempts.Evidence.{missing, issuer, backer, backer_at}
use Rattle.registry_error.specs.Errors.{Answer}
use Rattle.std.proofs.Common.{Ok, Err}
use Rattle.registry_error.specs.declared.RegistryRejection.TheVariants.{InconsistentRegistry, InconsistentManagement}
use Rattle.registry_answer.specs.Answers.{accepts, accept_if, or_else, first_of}
use Rattle.registry_answer.proofs.AnswerLaws.{first-last, or-nothing}
use Rattle.registry_backing.specs.Backings.{own_where}
use Rattle.registry_backer.proofs.SealLaws.{no-event-resolved}
use Rattle.registry_backer.specs.Backers.{resolved_by, resolved, authenticate_backer, carried_backed, resolved_at, resolved_backer, asks_own}

-- 10 of an event seal, then the rest
pub event-seal : (g : Registry) (i : Identifier) (s : Sn) (d : Said) (e : Evidence) (l : List Signature) → resolved_backer g (Event i s d) e l ≡ or_else (accept_if (eq_matter (matter_of i) g.id.0) InconsistentRegistry) (resolved_at g s d e l)
unfolding resolved_backer first_of accept_if
event-seal g i s d e l = go (eq_matter (matter_of i) g.id.0)
  where
    x : Answer
    x = resolved_by g s d e

    y : Answer
    y = carried_backed e l

    inner : (a b : Answer) → or_else a (or_else b (Ok tt)) ≡ or_else a b
    inner (Ok u) b = or-nothing b
    inner (Err r) b = refl

    go : (t : Bool) → or_else (or_else (cond t (Ok tt) (Err InconsistentRegistry)) x) (or_else y (Ok tt)) ≡ or_else (cond t (Ok tt) (Err InconsistentRegistry)) (or_else x y)
    go true = inner x y
    go false = refl

-- 22 of another seal
pub other-seal : (g : Registry) (seal : Seal) (e : Evidence) (l : List Signature) → ((i : Identifier) (s : Sn) (d : Said) → seal ≡ Event i s d → ⊥) → Err InconsistentManagement ≡ resolved_backer g seal e l
unfolding resolved_backer first_of
other-seal g seal e l k = rw (← no-event-resolved g seal e k)

-- evidence that is no Backer leaves nothing to the registry's own backers
pub unasked : (b : List ℕ) (e : EvidenceAt) → (e ≡ E.Backer → ⊥) → asks_own (evidence_in b e) ≡ false
unasked b E.Missing k = refl
unasked b (E.Issuer p c) k = refl
unasked b E.Backer k = absurd (k refl)
unasked b (E.BackerAt c) k = refl

own_behind : (x y : Answer) → first_of (x ∷ y ∷ []) ≡ or_else (first_of (x ∷ (Ok tt) ∷ [])) y
unfolding first_of
own_behind (Ok u) y = first-last y
own_behind (Err r) y = refl

none-behind : (x : Answer) → x ≡ or_else x (Ok tt)
none-behind (Ok u) = refl
none-behind (Err r) = refl

refused-anyway : (x y : Answer) → accepts x ≡ false → first_of (x ∷ y ∷ []) ≡ or_else (first_of (x ∷ (Ok tt) ∷ [])) (Ok tt)
unfolding first_of
refused-anyway (Ok u) y h = absurd (false≢true (sym h))
refused-anyway (Err r) y h = refl

or-refused : (x y : Answer) → accepts y ≡ false → accepts (or_else x y) ≡ false
or-refused (Ok u) y h = h
or-refused (Err q) y h = refl

-- evidence that is refused whatever s and d are is refused whatever the seal is
refused-by-any : (g : Registry) (seal : Seal) (e : Evidence) → ((s : Sn) (d : Said) → accepts (resolved_by g s d e) ≡ false) → accepts (resolved g seal e) ≡ false
refused-by-any g Digest e h = refl
refused-by-any g Root e h = refl
refused-by-any g Source e h = refl
refused-by-any g (Event i s d) e h = or-refused (accept_if (eq_matter (matter_of i) g.id.0) InconsistentRegistry) (resolved_by g s d e) (h s d)
refused-by-any g Last e h = refl
refused-by-any g Back e h = refl
refused-by-any g Kind e h = refl
refused-by-any g Opaque e h = refl

pub in-two-parts : (g : Registry) (seal : Seal) (e : Evidence) (l : List Signature) → authenticate_backer g seal e l ≡ or_else (resolved_backer g seal e l) (own_where (asks_own e) g.toad g.backers l)
unfolding authenticate_backer resolved_backer own_where
in-two-parts g seal missing l = refused-anyway (resolved g seal missing) _ (refused-by-any g seal missing (λ s d. refl))
in-two-parts g seal (issuer p a) l = refused-anyway (resolved g seal (issuer p a)) _ (refused-by-any g seal (issuer p a) (λ s d. refl))
in-two-parts g seal backer l = own_behind (resolved g seal backer) _
in-two-parts g seal (backer_at h) l = none-behind _
