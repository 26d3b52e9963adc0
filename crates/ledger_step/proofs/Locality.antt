-- Admitted attempts are local: each reads and writes what its class is about, and beside it reads only what no attempt changes.
--     Permitted   admitted, and its new pair is one of the new pairs
--     Fine        what every ledger of a run keeps
--     local       the law
use Prim.Native.Nat.{ℕ, ◌+◌, ◌≤◌, ◌<◌}
use mathlib.Core.Path.{◌≡◌, refl, sym, ap, ◌∙◌, subst}
use mathlib.Core.Logic.{◌≢◌}
use mathlib.Core.Bool.{false, cond}
use mathlib.Core.Option
use mathlib.Core.Option.{Option, none, some, none-ne-some, some-ne-none, some-injective}
use mathlib.Core.List.{List, map, map-map, Memᴰ}
use native.Mathlib.Omega.{arith}
use borrow.Author.Tests.{lt-ltb}
use Rattle.cesr.specs.Primitives.{eq_said}
use Rattle.cesr.specs.declared.Matter.{Matter}
use Rattle.cesr.specs.declared.Said.{Said}
use Rattle.registry_state.specs.States.{Registry}
use Rattle.registry_state_credential.specs.declared.CredentialState.{CredentialState}
use Rattle.registry_laws.specs.Attempts.{Message}
use Rattle.registry_laws.specs.Pairs.{Pair, key_of}
use Rattle.registry_laws.specs.States.{OneRegistry}
use Rattle.ledger_step.specs.Tables.{find, put}
use Rattle.ledger_step.specs.Ledgers.{Held, Ledger, id_of, eq_pair, ids_of, registry_at, row_at}
use Rattle.ledger_step.specs.Steps.{Request, request_of, Effect, rotation_effect, issue_effect, revocation_effect, effect_of, effect, answer_of, held_now, changed, step_of}
use Rattle.ledger_step.specs.Steps.Request.{nothing, inception, rotation, issue, revocation}
use Rattle.ledger_step.specs.Steps.Effect.{refuse, new_registry, set_registry, new_row, set_row}
use Rattle.ledger_step.specs.OrderFreedom.{result_of, next_of, result_at, Class, class_by, class_of, takes_head}
use Rattle.ledger_step.specs.OrderFreedom.Class.{rotations_of, attempts_on}
use Rattle.ledger_step.proofs.Cells.{Local}
use Rattle.ledger_step.proofs.TableLaws.{over, behind, over-else, over_none, behind-else, behind-none, find-append, find-key, find-put, map-put, find-map}
use Rattle.ledger_step.proofs.Lacking.{lacking, lacking-one, lacking-append, lacking-put}
use Rattle.ledger_step.proofs.Rules.{said-test, pair-test, Keeps}
use Rattle.ledger_step.proofs.Changes.{Read, NewRegistry, SetRegistry, Legal, effect-legal, keeps-changed}
use Rattle.ledger_step.proofs.ReadsFixed.{issue-fixed, revocation-fixed}
use Rattle.ledger_step.proofs.StepSound.{acts}

-- what no rotation changes
record Fixed : Type 0 where
  id : Said
  issuer : Matter
  configs : List ℕ

abbrev fixed_of : Held → Fixed
fixed_of g = record { id = g.state.id; issuer = g.state.issuer; configs = g.state.configs }

abbrev name_of : Fixed → Said
name_of f = f.id

one-fixed : (g h : Held) → OneRegistry g.state h.state → fixed_of g ≡ fixed_of h
one-fixed g h one = λ i. record { id = one.id i; issuer = one.issuer i; configs = one.configs i }

fixed-one : (g h : Held) → fixed_of g ≡ fixed_of h → OneRegistry g.state h.state
fixed-one g h e = record { id = ap (λ (f : Fixed). f.id) e; issuer = ap (λ (f : Fixed). f.issuer) e; configs = ap (λ (f : Fixed). f.configs) e }

-- the cell of a class: the registry that is rotated, or the row of the pair
abbrev Cell : Class → Type 0
Cell (rotations_of id) = Option Held
Cell (attempts_on k) = Option CredentialState

abbrev pub cell : Ledger → (c : Class) → Cell c
cell s (rotations_of id) = registry_at s id
cell s (attempts_on k) = row_at s k

-- what an issue and a revocation come to depends on the fixed part of the registry, and, of the number of rows, only on whether there is room
issue-same : (m : Message) (n n' : ℕ) (o p : Option Held) (w : Option CredentialState) → takes_head m.event m.evidence ≡ false → Option.map fixed_of o ≡ Option.map fixed_of p → (w ≡ none → n < 256) → (w ≡ none → n' < 256) → issue_effect m n o w ≡ issue_effect m n' p w
issue-same m n n' none none w h e a b = refl
issue-same m n n' none (some g) w h e a b = absurd (none-ne-some _ e)
issue-same m n n' (some g) none w h e a b = absurd (some-ne-none _ e)
issue-same m n n' (some g) (some j) none h e a b =
    rw (issue-fixed g.state j.state (fixed-one g j (some-injective _ _ e)) m h, lt-ltb n 256 (a refl), lt-ltb n' 256 (b refl))
issue-same m n n' (some g) (some j) (some w) h e a b = refl

revocation-same : (k : Pair) (m : Message) (o p : Option Held) (w : Option CredentialState) → takes_head m.event m.evidence ≡ false → Option.map fixed_of o ≡ Option.map fixed_of p → revocation_effect k m o w ≡ revocation_effect k m p w
revocation-same k m none none w h e = refl
revocation-same k m none (some g) w h e = absurd (none-ne-some _ e)
revocation-same k m (some g) none w h e = absurd (some-ne-none _ e)
revocation-same k m (some g) (some j) none h e = refl
revocation-same k m (some g) (some j) (some w) h e =
    rw (revocation-fixed g.state j.state (fixed-one g j (some-injective _ _ e)) m w h)

-- the id of a rotated registry is the one under which it stands
set-id : (s : Ledger) (q : Request) (id : Said) (g : Registry) → SetRegistry s q id g → g.id ≡ id
set-id s q id g n = n.one.id ∙ find-key id_of eq_said said-test id s.registries n.old n.there

-- `l` is the ledger at the start, `news` the new pairs
module _ (l : Ledger) (news : List Pair) where
  abbrev pub Permitted : Request → Type 0
  Permitted (nothing r) = Unit {0}
  Permitted (inception id m) = ⊥
  Permitted (rotation id m) = Unit {0}
  Permitted (issue k m) = (takes_head m.event m.evidence ≡ false) × (row_at l k ≡ none → Memᴰ k news)
  Permitted (revocation k m) = takes_head m.event m.evidence ≡ false

  pub record Fine (s : Ledger) : Type 0 where
    pub kept : Keeps s
    pub fixed_kept : map fixed_of s.registries ≡ map fixed_of l.registries
    pub count_kept : s.registry_count ≡ l.registry_count
    pub keys_kept : (k : Pair) → row_at s k ≡ none → row_at l k ≡ none
    pub room : s.row_count + lacking key_of eq_pair news s.rows ≤ 256

  never-new : (s : Ledger) (q : Request) (g : Registry) → Permitted q → NewRegistry s q g → ⊥
  never-new s q g p n = subst Permitted n.asked p

  -- a change leaves the cell of every other class
  other-cell : (s : Ledger) (q : Request) (e : Effect) (c : Class) → Permitted q → Legal s q e → class_by q ≢ some c → cell (changed s e) c ≡ cell s c
  other-cell s q (refuse r) c p n d = refl
  other-cell s q (new_registry g) c p n d = absurd (never-new s q g p n)
  other-cell s q (set_registry id g) (rotations_of t) p n d =
      find-put id_of eq_said said-test t id (held_now g) s.registries (set-id s q id g n)
      ∙ over-else (eq_said id t) (held_now g) (registry_at s t) (λ y. d (n.about ∙ ap (λ (z : Said). some (rotations_of z)) (said-test.equal id t y)))
  other-cell s q (set_registry id g) (attempts_on t) p n d = refl
  other-cell s q (new_row w) (rotations_of t) p n d = refl
  other-cell s q (new_row w) (attempts_on t) p n d =
      find-append key_of eq_pair t s.rows w
      ∙ behind-else (eq_pair (key_of w) t) w (row_at s t) (λ y. d (ap class_by n.asked ∙ ap (λ (z : Pair). some (attempts_on z)) (pair-test.equal (key_of w) t y)))
  other-cell s q (set_row k w) (rotations_of t) p n d = refl
  other-cell s q (set_row k w) (attempts_on t) p n d =
      find-put key_of eq_pair pair-test t k w s.rows n.key
      ∙ over-else (eq_pair k t) w (row_at s t) (λ y. d (n.about ∙ ap (λ (z : Pair). some (attempts_on z)) (pair-test.equal k t y)))

  -- one change does the same to cells that are the same
  same-cell : (s t : Ledger) (q : Request) (e : Effect) (c : Class) → Permitted q → Legal s q e → cell s c ≡ cell t c → cell (changed s e) c ≡ cell (changed t e) c
  same-cell s t q (refuse r) c p n h = h
  same-cell s t q (new_registry g) c p n h = absurd (never-new s q g p n)
  same-cell s t q (set_registry id g) (rotations_of u) p n h =
      find-put id_of eq_said said-test u id (held_now g) s.registries (set-id s q id g n)
      ∙ ap (over (eq_said id u) (held_now g)) h
      ∙ sym (find-put id_of eq_said said-test u id (held_now g) t.registries (set-id s q id g n))
  same-cell s t q (set_registry id g) (attempts_on u) p n h = h
  same-cell s t q (new_row w) (rotations_of u) p n h = h
  same-cell s t q (new_row w) (attempts_on u) p n h =
      find-append key_of eq_pair u s.rows w
      ∙ ap (λ (o : Option CredentialState). behind o (cond (eq_pair (key_of w) u) (some w) none)) h
      ∙ sym (find-append key_of eq_pair u t.rows w)
  same-cell s t q (set_row k w) (rotations_of u) p n h = h
  same-cell s t q (set_row k w) (attempts_on u) p n h =
      find-put key_of eq_pair pair-test u k w s.rows n.key
      ∙ ap (over (eq_pair k u) w) h
      ∙ sym (find-put key_of eq_pair pair-test u k w t.rows n.key)

  -- the row of a new pair finds room
  has_room : (s : Ledger) (k : Pair) → Fine s → (row_at l k ≡ none → Memᴰ k news) → row_at s k ≡ none → s.row_count < 256
  has_room s k f n e = omega (arith, f.room, lacking-one key_of eq_pair news s.rows k (n (f.keys_kept k e)) e)

  same-fixed : (s t : Ledger) (id : Said) → Fine s → Fine t → Option.map fixed_of (registry_at s id) ≡ Option.map fixed_of (registry_at t id)
  same-fixed s t id f g =
      find-map fixed_of name_of eq_said id s.registries
      ∙ ap (find name_of eq_said id) (f.fixed_kept ∙ sym g.fixed_kept)
      ∙ sym (find-map fixed_of name_of eq_said id t.registries)

  -- an attempt comes to the same where the cell of its class is the same
  same_effect : (s t : Ledger) (q : Request) → Fine s → Fine t → Permitted q → ((c : Class) → class_by q ≡ some c → cell s c ≡ cell t c) → effect_of s q ≡ effect_of t q
  same_effect s t (nothing r) f g p h = refl
  same_effect s t (inception id m) f g p h = absurd p
  same_effect s t (rotation id m) f g p h = ap (rotation_effect id m) (h (rotations_of id) refl)
  same_effect s t (issue k m) f g p h =
      let e : row_at s k ≡ row_at t k = h (attempts_on k) refl in
      ap (issue_effect m s.row_count (registry_at s k.registry)) e
      ∙ issue-same m s.row_count t.row_count (registry_at s k.registry) (registry_at t k.registry) (row_at t k) p.0 (same-fixed s t k.registry f g) (λ n. has_room s k f p.1 (e ∙ n)) (λ n. has_room t k g p.1 n)
  same_effect s t (revocation k m) f g p h =
      ap (revocation_effect k m (registry_at s k.registry)) (h (attempts_on k) refl)
      ∙ revocation-same k m (registry_at s k.registry) (registry_at t k.registry) (row_at t k) p (same-fixed s t k.registry f g)

  fine-changed : (s : Ledger) (q : Request) (e : Effect) → Fine s → Permitted q → Legal s q e → Fine (changed s e)
  fine-changed s q (refuse r) f p n = f
  fine-changed s q (new_registry g) f p n = absurd (never-new s q g p n)
  fine-changed s q (set_registry id g) f p n =
      let e : map fixed_of (put id_of eq_said id (held_now g) s.registries) ≡ map fixed_of s.registries = map-put id_of eq_said fixed_of id (held_now g) n.old s.registries n.there (one-fixed (held_now g) n.old n.one) in
      record
      { kept = keeps-changed s q (set_registry id g) f.kept n; fixed_kept = e ∙ f.fixed_kept; count_kept = f.count_kept; keys_kept = f.keys_kept; room = f.room }
  fine-changed s q (new_row w) f p n =
      let new : Memᴰ (key_of w) news = (subst Permitted n.asked p).1 (f.keys_kept (key_of w) n.absent) in
      record
      { kept = keeps-changed s q (new_row w) f.kept n; fixed_kept = f.fixed_kept; count_kept = f.count_kept; keys_kept = λ k e. f.keys_kept k (behind-none _ _ (sym (find-append key_of eq_pair k s.rows w) ∙ e)); room = omega (arith, f.room, lacking-append key_of eq_pair pair-test news s.rows w new n.absent) }
  fine-changed s q (set_row k w) f p n =
      record
      { kept = keeps-changed s q (set_row k w) f.kept n; fixed_kept = f.fixed_kept; count_kept = f.count_kept; keys_kept = λ j e. f.keys_kept j (over_none (eq_pair k j) w (row_at s j) (sym (find-put key_of eq_pair pair-test j k w s.rows n.key) ∙ e)); room = rw (lacking-put key_of eq_pair pair-test news k w s.rows n.key) f.room }

  abbrev pub Allowed : List ℕ → Type 0
  Allowed a = Permitted (request_of a) × Read (request_of a)

  legal : (s : Ledger) (a : List ℕ) → Fine s → Allowed a → Legal s (request_of a) (effect s (request_of a))
  legal s a f p = rw (acts s (request_of a) f.kept) (effect-legal s (request_of a) f.kept p.1)

  same-acts : (s t : Ledger) (a : List ℕ) → Fine s → Fine t → Allowed a → ((c : Class) → class_of a ≡ some c → cell s c ≡ cell t c) → effect s (request_of a) ≡ effect t (request_of a)
  same-acts s t a f g p h =
      acts s (request_of a) f.kept ∙ same_effect s t (request_of a) f g p.0 h ∙ sym (acts t (request_of a) g.kept)

  pub local : Local next_of result_at class_of cell Fine Allowed
  unfolding step_of
  local = record {
    keeps = λ s a f p. fine-changed s (request_of a) (effect s (request_of a)) f p.0 (legal s a f p);
    other = λ s a c f p d. other-cell s (request_of a) (effect s (request_of a)) c p.0 (legal s a f p) d;
    own = λ s t a c f g p d h.
        let e : effect s (request_of a) ≡ effect t (request_of a) = same-acts s t a f g p (λ j u. subst (λ (z : Class). cell s z ≡ cell t z) (some-injective _ _ (sym d ∙ u)) h) in
        rw (← e) (same-cell s t (request_of a) (effect s (request_of a)) c p.0 (legal s a f p) h);
    reply = λ s t a f g p h. ap (λ (e : Effect). result_of (answer_of e)) (same-acts s t a f g p h);
  }

  pub ids-kept : (s : Ledger) → Fine s → ids_of s ≡ ids_of l
  ids-kept s f = sym (map-map name_of fixed_of s.registries) ∙ ap (map name_of) f.fixed_kept ∙ map-map name_of fixed_of l.registries
