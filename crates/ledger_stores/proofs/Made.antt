-- What the answer to an attempt makes of the slices that are lent.
--     Aims, aims   what is new was not found, and a replacement is of what is named
--     stores       what is answered, stored at its place, is what the effect stores
--     answers      the answer is the effect's
use Prim.Native.Nat.{ℕ}
use mathlib.Core.Path.{◌≡◌, refl, ap, ◌∙◌}
use mathlib.Core.Bool.{Bool, true, false, cond}
use Rattle.std.specs.Prelude.{Option, None, Some}
use mathlib.Core.List.{List}
use lib.Dec.{ltb}
use lib.ListN.{set}
use Rattle.std.proofs.Common.{Result, Ok, Err}
use Rattle.cesr.specs.declared.Said.{Said}
use Rattle.registry_state.specs.declared.RegistryState.{RegistryState}
use Rattle.registry_state_credential.specs.declared.CredentialState.{CredentialState}
use Rattle.registry_error.specs.Errors.{Answer}
use Rattle.registry_error.specs.declared.RegistryRejection.{RegistryRejection}
use Rattle.registry_error.specs.declared.RegistryRejection.TheVariants.{Malformed, NoRoom}
use Rattle.registry_inception.specs.InceptionFolds as N
use Rattle.ledger_rows.specs.RegistryFolds as R
use Rattle.registry_issue.specs.IssueFolds as I
use Rattle.ledger_rows.specs.CredentialFolds as C
use Rattle.ledger_rows.specs.Pairs.{Pair}
use Rattle.ledger_rows.specs.Steps.{Effect, after_fold, answer_of}
use Rattle.ledger_rows.specs.Steps.Effect.{refuse, new_registry, set_registry, new_row, set_row}
use Rattle.ledger_rows.specs.Rows.{find_at}
use Rattle.ledger_registries.specs.Registries.{find_registry}
use Rattle.ledger_asked.specs.declared.Asks.{Asks}
use Rattle.ledger_asked.specs.declared.Asks.TheVariants.{Inception, Rotation, Issue, Revocation}
use Rattle.ledger_asked.specs.declared.Named.{Named}
use Rattle.ledger_asked.specs.Names.{decodes}
use Rattle.ledger_answers.specs.declared.Found.{Found}
use Rattle.ledger_answers.specs.declared.Change.{Change}
use Rattle.ledger_answers.specs.Checks.{if_read, inception_named, rotation_named, issue_named, revocation_named, Makes}
use Rattle.ledger_stores.specs.Effects.{pair_named, asked_effect, named_effect, registry_found, row_found}
use Rattle.ledger_stores.specs.Applies.{Lent, lent, Stores, answer_to, lent_after}

abbrev pub Aims : Named → Option RegistryState → Option CredentialState → Effect → Type 0
Aims q g w (refuse r) = Unit {0}
Aims q g w (new_registry h) = g ≡ None
Aims q g w (set_registry id h) = q.registry ≡ id
Aims q g w (new_row v) = w ≡ None
Aims q g w (set_row k v) = pair_named q ≡ k

module _ (q : Named) (s : List ℕ) where
  after-aims : (g : Option RegistryState) (w : Option CredentialState) (a : Answer) (e : Effect) → Aims q g w e → Aims q g w (after_fold a e)
  after-aims g w (Ok u) e h = h
  after-aims g w (Err r) e h = tt

  test-aims : (g : Option RegistryState) (w : Option CredentialState) (t : Bool) (e : Effect) (r : RegistryRejection) → Aims q g w e → Aims q g w (cond t e (refuse r))
  test-aims g w true e r h = h
  test-aims g w false e r h = tt

  inception-aims : (g : Option RegistryState) (w : Option CredentialState) (m : ℕ) → Aims q g w (inception_named s g m)
  inception-aims (Some g) w m = tt
  inception-aims None w m =
      after-aims None w (N.incept_of s).answer _ (test-aims None w (ltb m 16) (new_registry (N.incept_of s).state) NoRoom refl)

  rotation-aims : (g : Option RegistryState) (w : Option CredentialState) → Aims q g w (rotation_named s q.registry g)
  rotation-aims None w = tt
  rotation-aims (Some g) w = after-aims (Some g) w (R.ingest_of g s).answer (set_registry q.registry (R.ingest_of g s).state) refl

  issue-aims : (g : Option RegistryState) (w : Option CredentialState) (n : ℕ) → Aims q g w (issue_named s g w n)
  issue-aims None w n = tt
  issue-aims (Some g) (Some w) n = tt
  issue-aims (Some g) None n =
      after-aims (Some g) None (I.incept_of g s).answer _ (test-aims (Some g) None (ltb n 256) (new_row (I.incept_of g s).state) NoRoom refl)

  revocation-aims : (g : Option RegistryState) (w : Option CredentialState) → Aims q g w (revocation_named s (pair_named q) g w)
  revocation-aims None w = tt
  revocation-aims (Some g) None = tt
  revocation-aims (Some g) (Some w) = after-aims (Some g) (Some w) (C.ingest_of g w s).answer (set_row (pair_named q) (C.ingest_of g w s).state) refl

  asked-aims : (a : Asks) (f : Found RegistryState) (o : Found CredentialState) → Aims q f.state o.state (asked_effect a s q f o)
  asked-aims Inception f o = inception-aims f.state o.state f.count
  asked-aims Rotation f o = rotation-aims f.state o.state
  asked-aims Issue f o = issue-aims f.state o.state o.count
  asked-aims Revocation f o = revocation-aims f.state o.state

  pub aims : (f : Found RegistryState) (o : Found CredentialState) → Aims q f.state o.state (if_read s (named_effect s q f o))
  aims f o = test-aims f.state o.state (decodes s) (named_effect s q f o) Malformed (asked-aims q.asks f o)

pub answers : (f : Found RegistryState) (o : Found CredentialState) (e : Effect) (x : Result Change RegistryRejection) → Makes e f o x → answer_to x ≡ answer_of e
answers f o (refuse r) x p = ap answer_to p
answers f o (new_registry h) x p = ap answer_to p.2
answers f o (set_registry id h) x p = ap answer_to p.2
answers f o (new_row w) x p = ap answer_to p
answers f o (set_row k w) x p = ap answer_to p

module _ (gs : List RegistryState) (m : ℕ) (ws : List CredentialState) (n : ℕ) (q : Named) where
  abbrev a : Lent
  a = lent gs m ws n

  -- what stands there after the answer
  abbrev after : Result Change RegistryRejection → Lent
  after x = lent_after x a

  pub stores : (e : Effect) (x : Result Change RegistryRejection) → Aims q (registry_found gs m q.registry).state (row_found ws n q.registry q.credential).state e → Makes e (registry_found gs m q.registry) (row_found ws n q.registry q.credential) x → Stores e a (after x)
  stores (refuse r) x h p = ap after p
  stores (new_registry g) x h p = (p.0, p.1, ap after p.2)
  stores (set_registry id g) x h p = (p.0, p.1, ap after p.2 ∙ ap (λ (i : Said). lent (set gs (find_registry gs m i) p.0) m ws n) h)
  stores (new_row w) x h p = ap after p
  stores (set_row k w) x h p = ap after p ∙ ap (λ (i : Pair). lent gs m (set ws (find_at ws n i.registry i.credential) w) n) h
