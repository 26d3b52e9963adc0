-- There is room for what an attempt changes.
--     Fits, effect-fits   a new state has room in the lent slices
use Prim.Native.Nat.{ℕ, ◌<◌}
use mathlib.Core.Path.{◌≡◌, refl}
use mathlib.Core.Bool.{Bool, true, false, cond}
use mathlib.Core.Option.{Option, none, some}
use native.Mathlib.Omega.{arith}
use borrow.Author.Tests.{ltb-true, eqb-true}
use lib.Dec.{ltb}
use Rattle.cesr.specs.declared.Said.{Said}
use Rattle.registry_state_credential.specs.declared.CredentialState.{CredentialState}
use Rattle.registry_wire.specs.Attempts.{Message}
use Rattle.registry_error.specs.Errors.{Answer}
use Rattle.std.proofs.Common.{Ok, Err}
use Rattle.registry_error.specs.declared.RegistryRejection.TheVariants.{Malformed, NoRoom}
use Rattle.registry_inception.specs.InceptionFolds as N
use Rattle.ledger_rows.specs.RegistryFolds as R
use Rattle.registry_issue.specs.IssueFolds as I
use Rattle.ledger_rows.specs.CredentialFolds as C
use Rattle.ledger_rows.specs.Pairs.{Pair}
use Rattle.ledger_rows.specs.Ledgers.{Held, Ledger, registry_at, row_at, sound}
use Rattle.ledger_rows.specs.Steps.{Request, Effect, after_fold, with_room, inception_effect, rotation_effect, issue_effect, revocation_effect, effect_of, effect}
use Rattle.ledger_rows.specs.Steps.Request.{nothing, inception, rotation, issue, revocation}
use Rattle.ledger_rows.specs.Steps.Effect.{refuse, new_registry, set_registry, new_row, set_row}
use Rattle.ledger_rows.proofs.Rules.{Keeps, parts}

abbrev pub Fits : Ledger → Effect → Type 0
Fits l (refuse r) = Unit {0}
Fits l (new_registry g) = l.registry_count < l.registry_slots
Fits l (set_registry id g) = Unit {0}
Fits l (new_row w) = l.row_count < l.row_slots
Fits l (set_row k w) = Unit {0}

module _ (l : Ledger) (k : Keeps l) where
  after-fits : (a : Answer) (e : Effect) → Fits l e → Fits l (after_fold a e)
  after-fits (Ok u) e f = f
  after-fits (Err r) e f = tt

  room_fits : (n limit : ℕ) (e : Effect) → (n < limit → Fits l e) → Fits l (with_room n limit e)
  room_fits n limit e h = go (ltb n limit) refl
    where
      go : (t : Bool) → ltb n limit ≡ t → Fits l (cond t e (refuse NoRoom))
      go true t = h (ltb-true n limit t)
      go false t = tt

  inception-fits : (m : Message) (o : Option Held) → Fits l (inception_effect m l.registry_count o)
  inception-fits m (some g) = tt
  inception-fits m none =
      let size = eqb-true l.registry_slots 16 k.registry-slots in
      after-fits (N.incept_message m).answer (with_room l.registry_count 16 (new_registry (N.incept_message m).state))
      (room_fits l.registry_count 16 (new_registry (N.incept_message m).state) (λ h. omega (arith, h, size)))

  rotation-fits : (id : Said) (m : Message) (o : Option Held) → Fits l (rotation_effect id m o)
  rotation-fits id m none = tt
  rotation-fits id m (some g) = after-fits (R.ingest_message g.state m).answer (set_registry id (R.ingest_message g.state m).state) tt

  issue-fits : (m : Message) (o : Option Held) (r : Option CredentialState) → Fits l (issue_effect m l.row_count o r)
  issue-fits m none r = tt
  issue-fits m (some g) (some w) = tt
  issue-fits m (some g) none =
      let size = eqb-true l.row_slots 256 k.row-slots in
      after-fits (I.incept_message g.state m).answer (with_room l.row_count 256 (new_row (I.incept_message g.state m).state))
      (room_fits l.row_count 256 (new_row (I.incept_message g.state m).state) (λ h. omega (arith, h, size)))

  revocation-fits : (p : Pair) (m : Message) (o : Option Held) (r : Option CredentialState) → Fits l (revocation_effect p m o r)
  revocation-fits p m none r = tt
  revocation-fits p m (some g) none = tt
  revocation-fits p m (some g) (some w) = after-fits (C.ingest_message g.state w m).answer (set_row p (C.ingest_message g.state w m).state) tt

  request-fits : (q : Request) → Fits l (effect_of l q)
  request-fits (nothing r) = tt
  request-fits (inception id m) = inception-fits m (registry_at l id)
  request-fits (rotation id m) = rotation-fits id m (registry_at l id)
  request-fits (issue p m) = issue-fits m (registry_at l p.registry) (row_at l p)
  request-fits (revocation p m) = revocation-fits p m (registry_at l p.registry) (row_at l p)

pub effect-fits : (l : Ledger) (q : Request) → Fits l (effect l q)
unfolding effect
effect-fits l q = go (sound l) refl
  where
    go : (t : Bool) → sound l ≡ t → Fits l (cond t (effect_of l q) (refuse Malformed))
    go true h = request-fits l (parts l h) q
    go false h = tt
