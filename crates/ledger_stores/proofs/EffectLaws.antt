-- What an attempt comes to by what it names is what it comes to in the ledger.
--     Searched, searched             what the searches found of a ledger, for what is named
--     named-effect, unnamed-effect   the law, of an attempt that names something and of one that does not
use Prim.Native.Nat.{ℕ}
use mathlib.Core.Path.{◌≡◌, refl, sym, ap, subst, ◌∙◌}
use mathlib.Core.Bool.{Bool, true, false, cond, false≢true}
use Rattle.std.proofs.Math.Option as M
use Rattle.std.specs.Prelude.{Option, None, Some}
use mathlib.Core.List.{List, [], ◌∷◌, map}
use borrow.Author.Tests.{ltb-true, ltb-false}
use lib.Dec.{ltb}
use lib.ListN.{length, get_or, take}
use Rattle.std.specs.List.{slice_get}
use Rattle.std.specs.Option.{option_map}
use Rattle.std.proofs.lemmas.Option.{slice_get-map, slice_get-get_or, slice_get_past}
use Rattle.std.proofs.Common.{Result, Ok, Err}
use Rattle.cesr.specs.Primitives.{eq_said}
use Rattle.cesr.specs.declared.Said.{Said}
use Rattle.events_tel.specs.TelEvents.{Event}
use Rattle.events_tel.specs.TelEvents.Event.{vcp, vrt, iss, rev, bis, brv}
use Rattle.registry_state.specs.States.{view_registry, well_registry}
use Rattle.registry_state_credential.specs.CredentialStates.{no_credential, well_credential}
use Rattle.registry_state.specs.declared.RegistryState.{RegistryState}
use Rattle.registry_state_credential.specs.declared.CredentialState.{CredentialState}
use Rattle.registry_wire.specs.Attempts.{Message, Decoded, decode_of}
use Rattle.registry_wire.specs.Attempts.Decoded.{malformed, decoded}
use Rattle.registry_error.specs.declared.RegistryRejection.{RegistryRejection}
use Rattle.registry_error.specs.declared.RegistryRejection.TheVariants.{Malformed}
use Rattle.registry_inception.specs.InceptionFolds as N
use Rattle.ledger_rows.specs.RegistryFolds as R
use Rattle.registry_issue.specs.IssueFolds as I
use Rattle.ledger_rows.specs.CredentialFolds as C
use Rattle.ledger_rows.specs.Pairs.{Pair, pair_in, key_of}
use Rattle.ledger_rows.specs.Tables.{place}
use Rattle.ledger_rows.specs.Ledgers.{Held, Ledger, held_of, id_of, eq_pair, registry_at, row_at, keeps_layout, lent_ledger, sound}
use Rattle.ledger_rows.specs.Steps.{Request, revocation_of, event_request, decoded_request, request_of, Effect, after_fold, with_room, inception_effect, rotation_effect, issue_effect, revocation_effect, effect_of, effect}
use Rattle.ledger_rows.specs.Steps.Request.{nothing, inception, rotation, issue, revocation}
use Rattle.ledger_rows.specs.Steps.Effect.{refuse, new_registry, set_registry, new_row, set_row}
use Rattle.ledger_rows.specs.Rows.{find_at}
use Rattle.ledger_rows.proofs.PlaceLaws.{find-place}
use Rattle.ledger_rows.proofs.TableLaws.{all-find}
use Rattle.ledger_rows.proofs.Rules.{Keeps, parts}
use Rattle.ledger_registries.specs.Registries.{no_held, find_registry}
use Rattle.ledger_asked.specs.declared.Named.{Named}
use Rattle.ledger_asked.specs.Names.{named_of, head_named, is_decoded, decodes}
use Rattle.ledger_asked.proofs.RequestLaws.{named-head, asks_nothing}
use Rattle.ledger_answers.specs.declared.Found.{Found}
use Rattle.ledger_answers.specs.Checks.{if_read, inception_named, rotation_named, issue_named, revocation_named}
use Rattle.ledger_answers.specs.Readings.{behind_reading}
use Rattle.ledger_stores.specs.Effects.{pair_named, named_effect, registry_found, row_found}

-- ---- a request that was read: the message is the one that was read
abbrev ReadFrom : List ℕ → Request → Type 0
ReadFrom s (nothing r) = Unit {0}
ReadFrom s (inception id m) = decode_of s ≡ decoded m
ReadFrom s (rotation id m) = decode_of s ≡ decoded m
ReadFrom s (issue k m) = decode_of s ≡ decoded m
ReadFrom s (revocation k m) = decode_of s ≡ decoded m

event-from : (s : List ℕ) (e : Event) (m : Message) → decode_of s ≡ decoded m → ReadFrom s (event_request e m)
event-from s (vcp said issuer toad configs backers) m q = q
event-from s (vrt said registry prior sn toad cuts additions) m q = q
event-from s (iss said credential registry) m q = q
event-from s (rev said credential registry prior) m q = q
event-from s (bis said credential registry seal) m q = q
event-from s (brv said credential prior seal) m q = go (pair_in seal credential)
  where
    go : (l : List Pair) → ReadFrom s (revocation_of l m)
    go [] = tt
    go (k ∷ l) = q

request-from : (s : List ℕ) → decodes s ≡ true → ReadFrom s (request_of s)
unfolding request_of decodes
request-from s h = go (decode_of s) refl h
  where
    go : (d : Decoded) → decode_of s ≡ d → is_decoded d ≡ true → ReadFrom s (decoded_request d)
    go malformed e t = absurd (false≢true t)
    go (decoded m) e t = event-from s m.event m e

-- ---- the folds, of a message that was read and of states that keep to their layouts
module _ (s : List ℕ) (m : Message) (e : decode_of s ≡ decoded m) where
  inception-read : N.incept_of s ≡ N.incept_message m
  unfolding N.incept_of
  inception-read = ap N.incept_decoded e

  rotation-read : (g : RegistryState) → well_registry g ≡ true → R.ingest_of g s ≡ R.ingest_message (view_registry g) m
  unfolding R.ingest_of
  rotation-read g h = rw (h, e)

  issue-read : (g : RegistryState) → well_registry g ≡ true → I.incept_of g s ≡ I.incept_message (view_registry g) m
  unfolding I.incept_of
  issue-read g h = rw (h, e)

  revocation-read : (g : RegistryState) (w : CredentialState) → well_registry g ≡ true → well_credential w ≡ true → C.ingest_of g w s ≡ C.ingest_message (view_registry g) w m
  unfolding C.ingest_of
  revocation-read g w h k = rw (h, k, e)

-- ---- states that were found, and that keep to their layouts
abbrev plain : {X : Type 0} → Option X → M.Option X
plain None = M.none
plain (Some x) = M.some x

abbrev held : Option RegistryState → M.Option Held
held o = plain (option_map held_of o)

abbrev WellHeld : Option RegistryState → Type 0
WellHeld None = Unit {0}
WellHeld (Some g) = well_registry g ≡ true

abbrev WellListed : Option CredentialState → Type 0
WellListed None = Unit {0}
WellListed (Some w) = well_credential w ≡ true

module _ (s : List ℕ) (m : Message) (e : decode_of s ≡ decoded m) where
  -- a vcp
  inception-is : (o : Option RegistryState) (n : ℕ) → inception_named s o n ≡ inception_effect m n (held o)
  inception-is None n = ap (λ (x : N.Outcome). after_fold x.answer (with_room n 16 (new_registry x.state))) (inception-read s m e)
  inception-is (Some g) n = refl

  -- a vrt
  rotation-is : (id : Said) (o : Option RegistryState) → WellHeld o → rotation_named s id o ≡ rotation_effect id m (held o)
  rotation-is id None h = refl
  rotation-is id (Some g) h = ap (λ (x : N.Outcome). after_fold x.answer (set_registry id x.state)) (rotation-read s m e g h)

  -- an iss or bis
  issue-is : (o : Option RegistryState) (r : Option CredentialState) (n : ℕ) → WellHeld o → issue_named s o r n ≡ issue_effect m n (held o) (plain r)
  issue-is None r n h = refl
  issue-is (Some g) (Some w) n h = refl
  issue-is (Some g) None n h = ap (λ (x : I.Outcome). after_fold x.answer (with_room n 256 (new_row x.state))) (issue-read s m e g h)

  -- a rev or brv
  revocation-is : (k : Pair) (o : Option RegistryState) (r : Option CredentialState) → WellHeld o → WellListed r → revocation_named s k o r ≡ revocation_effect k m (held o) (plain r)
  revocation-is k None r h p = refl
  revocation-is k (Some g) None h p = refl
  revocation-is k (Some g) (Some w) h p = ap (λ (x : I.Outcome). after_fold x.answer (set_row k x.state)) (revocation-read s m e g w h p)

-- ---- what the searches found for what is named
pub record Searched (l : Ledger) (q : Named) (f : Found RegistryState) (o : Found CredentialState) : Type 0 where
  pub registry : held f.state ≡ registry_at l q.registry
  pub registry_count : f.count ≡ l.registry_count
  pub row : plain o.state ≡ row_at l (pair_named q)
  pub row_count : o.count ≡ l.row_count

-- an element by its place, or none past the end
got : {X : Type 0} (l : List X) (p : ℕ) (d : X) → plain (slice_get l p) ≡ cond (ltb p (length l)) (M.some (get_or l p d)) M.none
got {X} l p d = go (ltb p (length l)) refl
  where
    go : (t : Bool) → ltb p (length l) ≡ t → plain (slice_get l p) ≡ cond t (M.some (get_or l p d)) M.none
    go true e = ap plain (slice_get-get_or l p d (ltb-true p (length l) e))
    go false e = ap plain (slice_get_past l p (ltb-false p (length l) e))

pub searched : (gs : List RegistryState) (m : ℕ) (ws : List CredentialState) (n : ℕ) (q : Named) → Searched (lent_ledger gs m ws n) q (registry_found gs m q.registry) (row_found ws n q.registry q.credential)
unfolding lent_ledger find_registry find_at
searched gs m ws n q =
    let g = map held_of (take m gs) in
    let w = take n ws in
    let p = place id_of eq_said no_held q.registry g in
    let r = place key_of eq_pair no_credential (pair_named q) w in
    record
    { registry = ap plain (sym (slice_get-map held_of (take m gs) p)) ∙ got g p no_held ∙ sym (find-place id_of eq_said no_held q.registry g); registry_count = refl; row = got w r no_credential ∙ sym (find-place key_of eq_pair no_credential (pair_named q) w); row_count = refl }

-- ---- what is found in a ledger that keeps the reading rules keeps to its layout
module _ (l : Ledger) (k : Keeps l) where
  well-held : (id : Said) (o : Option RegistryState) → held o ≡ registry_at l id → WellHeld o
  well-held id None e = tt
  well-held id (Some g) e = all-find id_of eq_said keeps_layout id l.registries (held_of g) k.layouts (sym e)

  well-listed : (p : Pair) (r : Option CredentialState) → plain r ≡ row_at l p → WellListed r
  well-listed p None e = tt
  well-listed p (Some w) e = all-find key_of eq_pair well_credential p l.rows w k.row-layouts (sym e)

  module _ (s : List ℕ) (f : Found RegistryState) (o : Found CredentialState) where
    -- what is named comes to the effect, or is refused where nothing is named
    abbrev ComesTo : Result Named RegistryRejection → Effect → Type 0
    ComesTo (Ok q) e = Searched l q f o → named_effect s q f o ≡ e
    ComesTo (Err r) e = refuse r ≡ e

    request-comes : (q : Request) → ReadFrom s q → ComesTo (named_of q) (effect_of l q)
    request-comes (nothing r) e = refl
    request-comes (inception id m) e =
        λ w. inception-is s m e f.state f.count ∙ (λ t. inception_effect m (w.registry_count t) (w.registry t))
    request-comes (rotation id m) e =
        λ w. rotation-is s m e id f.state (well-held id f.state w.registry) ∙ ap (rotation_effect id m) w.registry
    request-comes (issue p m) e =
        λ w. issue-is s m e f.state o.state o.count (well-held p.registry f.state w.registry) ∙ (λ t. issue_effect m (w.row_count t) (w.registry t) (w.row t))
    request-comes (revocation p m) e =
        λ w. revocation-is s m e p f.state o.state (well-held p.registry f.state w.registry) (well-listed p o.state w.row) ∙ (λ t. revocation_effect p m (w.registry t) (w.row t))

    attempt-comes : decodes s ≡ true → ComesTo (head_named s) (effect_of l (request_of s))
    attempt-comes h = subst (λ (q : Result Named RegistryRejection). ComesTo q (effect_of l (request_of s))) (named-head s h) (request-comes (request_of s) (request-from s h))

-- From what the event at its head names and what the searches found for that, an attempt comes to what it comes to in a ledger that keeps the
-- reading rules.
module _ (l : Ledger) (s : List ℕ) (h : sound l ≡ true) where
  in-ledger : (e : Effect) → e ≡ effect_of l (request_of s) → e ≡ effect l (request_of s)
  unfolding effect
  in-ledger e p = p ∙ ap (λ (t : Bool). cond t (effect_of l (request_of s)) (refuse Malformed)) (sym h)

  -- bytes that are no attempt
  unread : decodes s ≡ false → refuse Malformed ≡ effect_of l (request_of s)
  unread e = ap (effect_of l) (sym (asks_nothing s e))

  pub named-effect : (q : Named) (f : Found RegistryState) (o : Found CredentialState) → head_named s ≡ Ok q → Searched l q f o → if_read s (named_effect s q f o) ≡ effect l (request_of s)
  named-effect q f o e w = in-ledger (if_read s (named_effect s q f o)) (go (decodes s) refl)
    where
      go : (t : Bool) → decodes s ≡ t → cond t (named_effect s q f o) (refuse Malformed) ≡ effect_of l (request_of s)
      go true d = subst (λ (z : Result Named RegistryRejection). ComesTo l (parts l h) s f o z (effect_of l (request_of s))) e (attempt-comes l (parts l h) s f o d) w
      go false d = unread d

  pub unnamed-effect : (r : RegistryRejection) → head_named s ≡ Err r → refuse (behind_reading (decodes s) r) ≡ effect l (request_of s)
  unnamed-effect r e = in-ledger (refuse (behind_reading (decodes s) r)) (go (decodes s) refl)
    where
      nowhere : Found RegistryState
      nowhere = record { at = 0; count = 0; state = None }

      no-row : Found CredentialState
      no-row = record { at = 0; count = 0; state = None }

      go : (t : Bool) → decodes s ≡ t → refuse (behind_reading t r) ≡ effect_of l (request_of s)
      go true d = subst (λ (z : Result Named RegistryRejection). ComesTo l (parts l h) s nowhere no-row z (effect_of l (request_of s))) e (attempt-comes l (parts l h) s nowhere no-row d)
      go false d = unread d
