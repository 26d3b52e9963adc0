-- What an attempt comes to in a sound ledger.
--     Read, request-read   what is known of a request that was read
--     Legal, effect-legal  every change is to the place that the attempt names, and of a state that the reading rules accept
--     keeps-changed        so the ledger with the change made keeps the rules
use Prim.Native.Nat.{ℕ, ◌<◌}
use mathlib.Core.Path.{◌≡◌, refl, sym, ap, ◌∙◌, subst}
use mathlib.Core.Bool.{Bool, true, false, cond}
use mathlib.Core.Option.{Option, none, some}
use mathlib.Core.List.{List, [], ◌∷◌, ◌++◌, map, map-append}
use native.Mathlib.Omega.{arith}
use borrow.Author.Tests.{ltb-true}
use lib.Dec.{ltb}
use Rattle.cesr.specs.Primitives.{eq_said, is_said}
use Rattle.cesr.specs.declared.Said.{Said}
use Rattle.events_tel.specs.TelEvents.{Event}
use Rattle.events_tel.specs.TelEvents.Event.{vcp, vrt, iss, rev, bis, brv}
use Rattle.codec.specs.Layout.{all}
use Rattle.codec_laws.proofs.CodesList.{all_snoc}
use Rattle.registry_state.specs.States.{Registry}
use Rattle.registry_state_credential.specs.CredentialStates.{well_credential}
use Rattle.registry_state_credential.specs.declared.CredentialState.{CredentialState}
use Rattle.registry_laws.specs.Attempts.{Message, Decoded, decode_of}
use Rattle.registry_laws.specs.Attempts.Decoded.{malformed, decoded}
use Rattle.registry_answer.specs.Answers.{accepts}
use Rattle.registry_error.specs.Errors.{Answer}
use Rattle.std.proofs.Common.{Ok, Err}
use Rattle.registry_error.specs.declared.RegistryRejection.TheVariants.{NoRoom}
use Rattle.registry_laws.specs.InceptionFolds as N
use Rattle.registry_laws.specs.RegistryFolds as R
use Rattle.registry_laws.specs.IssueFolds as I
use Rattle.registry_laws.specs.CredentialFolds as C
use Rattle.registry_laws.specs.CredentialFolds.{said_of}
use Rattle.registry_laws.specs.Pairs.{Pair, pair_of, pair_in, key_of}
use Rattle.registry_laws.specs.ReadingRules.{sound_registry}
use Rattle.registry_laws.specs.States.{OneRegistry}
use Rattle.registry_laws.proofs.Inceptions.{inception-sound}
use Rattle.registry_laws.proofs.Rotations.{rotation-keeps, rotation-sound}
use Rattle.registry_laws.proofs.Issues.{issue-names}
use Rattle.registry_laws.proofs.Revocations.{revocation-keeps}
use Rattle.ledger_step.specs.Tables.{has, put}
use Rattle.ledger_step.specs.Ledgers.{Held, Ledger, id_of, eq_pair, ids_of, registry_at, row_at, keeps_layout, keeps_rules, has_registry, zero_or_one}
use Rattle.ledger_step.specs.Steps.{Request, revocation_of, event_request, decoded_request, request_of, Effect, after_fold, with_room, inception_effect, rotation_effect, issue_effect, revocation_effect, effect_of, held_now, changed}
use Rattle.ledger_step.specs.Steps.Request.{nothing, inception, rotation, issue, revocation}
use Rattle.ledger_step.specs.Steps.Effect.{refuse, new_registry, set_registry, new_row, set_row}
use Rattle.ledger_step.specs.OrderFreedom.{class_by}
use Rattle.ledger_step.specs.OrderFreedom.Class.{rotations_of, attempts_on}
use Rattle.registry_state.proofs.StateLoops.{all_weaker}
use Rattle.ledger_step.proofs.TableLaws.{find-key, has-find, all-find, all-put, map-put, has_more, distinct_append}
use Rattle.ledger_step.proofs.Rules.{said-test, pair-test, Keeps}
use Rattle.ledger_step.proofs.ReadLetters.{Lettered, event-lettered}
use Rattle.ledger_step.proofs.NewStates.{inception-id, issue-well, issue-low, revocation-well, revocation-low}

-- what a request that was read says: the names are the message's, and what a row takes of the event has its letters
abbrev pub Read : Request → Type 0
Read (nothing r) = Unit {0}
Read (inception id m) = said_of m.event ≡ id
Read (rotation id m) = Unit {0}
Read (issue k m) = (pair_of m.event ≡ k ∷ []) × Lettered m.event
Read (revocation k m) = is_said (said_of m.event).0 ≡ true

event-read : (e : Event) (m : Message) → m.event ≡ e → Lettered e → Read (event_request e m)
event-read (vcp said issuer toad configs backers) m q h = ap said_of q
event-read (vrt said registry prior sn toad cuts additions) m q h = tt
event-read (iss said credential registry) m q h = (ap pair_of q, subst Lettered (sym q) h)
event-read (rev said credential registry prior) m q h = rw q h
event-read (bis said credential registry seal) m q h = (ap pair_of q, subst Lettered (sym q) h)
event-read (brv said credential prior seal) m q h = go (pair_in seal credential)
  where
    go : (l : List Pair) → Read (revocation_of l m)
    go [] = tt
    go (k ∷ l) = rw q h

pub request-read : (s : List ℕ) → Read (request_of s)
unfolding request_of
request-read s = go (decode_of s) refl
  where
    go : (d : Decoded) → decode_of s ≡ d → Read (decoded_request d)
    go malformed e = tt
    go (decoded m) e = event-read m.event m refl (event-lettered s m e)

pub record NewRegistry (s : Ledger) (q : Request) (g : Registry) : Type 0 where
  pub message : Message
  pub asked : q ≡ inception g.id message
  pub absent : registry_at s g.id ≡ none
  pub ruled : sound_registry g ≡ true
  pub room : s.registry_count < 16

pub record SetRegistry (s : Ledger) (q : Request) (id : Said) (g : Registry) : Type 0 where
  pub old : Held
  pub there : registry_at s id ≡ some old
  pub one : OneRegistry g old.state
  pub ruled : sound_registry g ≡ true
  pub about : class_by q ≡ some (rotations_of id)

pub record NewRow (s : Ledger) (q : Request) (w : CredentialState) : Type 0 where
  pub message : Message
  pub asked : q ≡ issue (key_of w) message
  pub absent : row_at s (key_of w) ≡ none
  pub home : has_registry (ids_of s) w ≡ true
  pub well : well_credential w ≡ true
  pub low : zero_or_one w ≡ true
  pub room : s.row_count < 256

pub record SetRow (s : Ledger) (q : Request) (k : Pair) (w : CredentialState) : Type 0 where
  pub old : CredentialState
  pub there : row_at s k ≡ some old
  pub key : key_of w ≡ k
  pub home : has_registry (ids_of s) w ≡ true
  pub well : well_credential w ≡ true
  pub low : zero_or_one w ≡ true
  pub about : class_by q ≡ some (attempts_on k)

abbrev pub Legal : Ledger → Request → Effect → Type 0
Legal s q (refuse r) = Unit {0}
Legal s q (new_registry g) = NewRegistry s q g
Legal s q (set_registry id g) = SetRegistry s q id g
Legal s q (new_row w) = NewRow s q w
Legal s q (set_row k w) = SetRow s q k w

-- a change is legal where it is when the fold accepts, and when there is room
after-legal : (s : Ledger) (q : Request) (a : Answer) (e : Effect) → (accepts a ≡ true → Legal s q e) → Legal s q (after_fold a e)
after-legal s q (Ok u) e h = h refl
after-legal s q (Err r) e h = tt

room-legal : (s : Ledger) (q : Request) (n limit : ℕ) (e : Effect) → (n < limit → Legal s q e) → Legal s q (with_room n limit e)
room-legal s q n limit e h = go (ltb n limit) refl
  where
    go : (t : Bool) → ltb n limit ≡ t → Legal s q (cond t e (refuse NoRoom))
    go true t = h (ltb-true n limit t)
    go false t = tt

inception-legal : (s : Ledger) (id : Said) (m : Message) → Read (inception id m) → (o : Option Held) → registry_at s id ≡ o → Legal s (inception id m) (inception_effect m s.registry_count o)
inception-legal s id m r (some g) e = tt
inception-legal s id m r none e =
    after-legal s (inception id m) (N.incept_message m).answer (with_room s.registry_count 16 (new_registry (N.incept_message m).state))
    (λ h. room-legal s (inception id m) s.registry_count 16 (new_registry (N.incept_message m).state)
    (λ room.
    let same : (N.incept_message m).state.id ≡ id = inception-id m h ∙ r in
    record
    { message = m; asked = ap (λ (z : Said). inception z m) (sym same); absent = ap (registry_at s) same ∙ e; ruled = inception-sound m h; room = room }))

rotation-legal : (s : Ledger) (id : Said) (m : Message) → Keeps s → (o : Option Held) → registry_at s id ≡ o → Legal s (rotation id m) (rotation_effect id m o)
rotation-legal s id m k none e = tt
rotation-legal s id m k (some g) e =
    after-legal s (rotation id m) (R.ingest_message g.state m).answer (set_registry id (R.ingest_message g.state m).state)
    (λ h. record
    { old = g; there = e; one = rotation-keeps g.state m; ruled = rotation-sound g.state m (all-find id_of eq_said keeps_rules id s.registries g k.ruled e); about = refl })

-- where a registry is found, it is held
held : (s : Ledger) (id : Said) (g : Held) → registry_at s id ≡ some g → has eq_said id (ids_of s) ≡ true
held s id g e = has-find id_of eq_said id s.registries ∙ rw e

-- the only element of a list
only : (a b : Pair) → ◌≡◌ {A = List Pair} (a ∷ []) (b ∷ []) → a ≡ b
only a b e = cc

issue-legal : (s : Ledger) (k : Pair) (m : Message) → Read (issue k m) → (o : Option Held) → registry_at s k.registry ≡ o → (w : Option CredentialState) → row_at s k ≡ w → Legal s (issue k m) (issue_effect m s.row_count o w)
issue-legal s k m r none e w f = tt
issue-legal s k m r (some g) e (some w) f = tt
issue-legal s k m r (some g) e none f =
    after-legal s (issue k m) (I.incept_message g.state m).answer (with_room s.row_count 256 (new_row (I.incept_message g.state m).state))
    (λ h. room-legal s (issue k m) s.row_count 256 (new_row (I.incept_message g.state m).state)
    (λ room.
    let same : key_of (I.incept_message g.state m).state ≡ k = only _ _ (sym (issue-names g.state m h).0 ∙ r.0) in
    record
    { message = m; asked = ap (λ (z : Pair). issue z m) (sym same); absent = ap (row_at s) same ∙ f; home = ap (λ (z : Pair). has eq_said z.registry (ids_of s)) same ∙ held s k.registry g e; well = issue-well g.state m r.1 h; low = issue-low g.state m h; room = room }))

revocation-legal : (s : Ledger) (k : Pair) (m : Message) → Keeps s → Read (revocation k m) → (o : Option Held) → registry_at s k.registry ≡ o → (w : Option CredentialState) → row_at s k ≡ w → Legal s (revocation k m) (revocation_effect k m o w)
revocation-legal s k m kept r none e w f = tt
revocation-legal s k m kept r (some g) e none f = tt
revocation-legal s k m kept r (some g) e (some w) f =
    after-legal s (revocation k m) (C.ingest_message g.state w m).answer (set_row k (C.ingest_message g.state w m).state)
    (λ h.
    let same : key_of (C.ingest_message g.state w m).state ≡ k = revocation-keeps g.state w m ∙ find-key key_of eq_pair pair-test k s.rows w f in
    record
    { old = w; there = f; key = same; home = ap (λ (z : Pair). has eq_said z.registry (ids_of s)) same ∙ held s k.registry g e; well = revocation-well g.state w m r (all-find key_of eq_pair well_credential k s.rows w kept.row-layouts f); low = revocation-low g.state w m (all-find key_of eq_pair zero_or_one k s.rows w kept.low f); about = refl })

pub effect-legal : (s : Ledger) (q : Request) → Keeps s → Read q → Legal s q (effect_of s q)
effect-legal s (nothing r) k d = tt
effect-legal s (inception id m) k d = inception-legal s id m d (registry_at s id) refl
effect-legal s (rotation id m) k d = rotation-legal s id m k (registry_at s id) refl
effect-legal s (issue p m) k d = issue-legal s p m d (registry_at s p.registry) refl (row_at s p) refl
effect-legal s (revocation p m) k d = revocation-legal s p m k d (registry_at s p.registry) refl (row_at s p) refl

-- every element, and one more
all_more : {X : Type 0} (p : X → Bool) (l : List X) (x : X) → all p l ≡ true → p x ≡ true → all p (l ++ (x ∷ [])) ≡ true
all_more p l x h e = all_snoc p l x ∙ rw (h, e)

keeps-new_registry : (s : Ledger) (q : Request) (g : Registry) → Keeps s → NewRegistry s q g → Keeps (changed s (new_registry g))
keeps-new_registry s q g k n =
    let e : map id_of (s.registries ++ (held_now g ∷ [])) ≡ ids_of s ++ (g.id ∷ []) = map-append id_of s.registries (held_now g ∷ []) in
    record
    { registry-slots = k.registry-slots; few-registries = omega (arith, n.room); row-slots = k.row-slots; few-rows = k.few-rows; layouts = all_more keeps_layout s.registries (held_now g) k.layouts refl; row-layouts = k.row-layouts; ids = rw e (distinct_append eq_said said-test (ids_of s) g.id k.ids (has-find id_of eq_said g.id s.registries ∙ rw n.absent)); keys = k.keys; homes = rw e (all_weaker (has_registry (ids_of s)) (has_registry (ids_of s ++ (g.id ∷ []))) s.rows (λ w h. has_more eq_said said-test w.registry g.id (ids_of s) h) k.homes); low = k.low; ruled = all_more keeps_rules s.registries (held_now g) k.ruled n.ruled }

keeps-set_registry : (s : Ledger) (q : Request) (id : Said) (g : Registry) → Keeps s → SetRegistry s q id g → Keeps (changed s (set_registry id g))
keeps-set_registry s q id g k n =
    let e : map id_of (put id_of eq_said id (held_now g) s.registries) ≡ ids_of s = map-put id_of eq_said id_of id (held_now g) n.old s.registries n.there n.one.id in
    record
    { registry-slots = k.registry-slots; few-registries = k.few-registries; row-slots = k.row-slots; few-rows = k.few-rows; layouts = all-put id_of eq_said keeps_layout id (held_now g) s.registries k.layouts refl; row-layouts = k.row-layouts; ids = rw e k.ids; keys = k.keys; homes = rw e k.homes; low = k.low; ruled = all-put id_of eq_said keeps_rules id (held_now g) s.registries k.ruled n.ruled }

keeps-new_row : (s : Ledger) (q : Request) (w : CredentialState) → Keeps s → NewRow s q w → Keeps (changed s (new_row w))
keeps-new_row s q w k n =
    let e : map key_of (s.rows ++ (w ∷ [])) ≡ map key_of s.rows ++ (key_of w ∷ []) = map-append key_of s.rows (w ∷ []) in
    record
    { registry-slots = k.registry-slots; few-registries = k.few-registries; row-slots = k.row-slots; few-rows = omega (arith, n.room); layouts = k.layouts; row-layouts = all_more well_credential s.rows w k.row-layouts n.well; ids = k.ids; keys = rw e (distinct_append eq_pair pair-test (map key_of s.rows) (key_of w) k.keys (has-find key_of eq_pair (key_of w) s.rows ∙ rw n.absent)); homes = all_more (has_registry (ids_of s)) s.rows w k.homes n.home; low = all_more zero_or_one s.rows w k.low n.low; ruled = k.ruled }

keeps-set_row : (s : Ledger) (q : Request) (p : Pair) (w : CredentialState) → Keeps s → SetRow s q p w → Keeps (changed s (set_row p w))
keeps-set_row s q p w k n =
    let e : map key_of (put key_of eq_pair p w s.rows) ≡ map key_of s.rows = map-put key_of eq_pair key_of p w n.old s.rows n.there (n.key ∙ sym (find-key key_of eq_pair pair-test p s.rows n.old n.there)) in
    record
    { registry-slots = k.registry-slots; few-registries = k.few-registries; row-slots = k.row-slots; few-rows = k.few-rows; layouts = k.layouts; row-layouts = all-put key_of eq_pair well_credential p w s.rows k.row-layouts n.well; ids = k.ids; keys = rw e k.keys; homes = all-put key_of eq_pair (has_registry (ids_of s)) p w s.rows k.homes n.home; low = all-put key_of eq_pair zero_or_one p w s.rows k.low n.low; ruled = k.ruled }

pub keeps-changed : (s : Ledger) (q : Request) (e : Effect) → Keeps s → Legal s q e → Keeps (changed s e)
keeps-changed s q (refuse r) k n = k
keeps-changed s q (new_registry g) k n = keeps-new_registry s q g k n
keeps-changed s q (set_registry id g) k n = keeps-set_registry s q id g k n
keeps-changed s q (new_row w) k n = keeps-new_row s q w k n
keeps-changed s q (set_row p w) k n = keeps-set_row s q p w k n
