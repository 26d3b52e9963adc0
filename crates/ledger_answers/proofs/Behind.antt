-- What is answered behind a fold. A fold answers 1 of bytes that are no attempt.
--     inception-refused, rotation-refused, issue-refused, revocation-refused   the fold refuses
--     inception-full, issue-full                                              there is no room behind it
--     inception-made, rotation-made, issue-made, revocation-made               the change is made
use Prim.Native.Nat.{ℕ, ◌+◌, ◌<◌, ◌≤◌}
use mathlib.Core.Path.{◌≡◌, refl, sym, ap, subst, ◌∙◌}
use mathlib.Core.Bool.{Bool, true, false, cond, ◌&&◌, true≢false}
use mathlib.Core.List.{List}
use borrow.Author.Tests.{lt-ltb, le-ltb}
use Rattle.std.specs.Prelude.{Option, None, Some}
use Rattle.std.specs.Prelude.{IfOk}
use Rattle.std.proofs.Common.{Result, Ok, Err}
use Rattle.cesr.specs.declared.Said.{Said}
use Rattle.registry_state.specs.States.{Registry, no_registry, view_registry, well_registry}
use Rattle.registry_state.specs.declared.RegistryState.{RegistryState}
use Rattle.registry_state_credential.specs.CredentialStates.{no_credential, well_credential}
use Rattle.registry_state_credential.specs.declared.CredentialState.{CredentialState}
use Rattle.registry_wire.specs.Attempts.{Decoded}
use Rattle.registry_answer.specs.Answers.{accepts}
use Rattle.registry_error.specs.Errors.{Answer}
use Rattle.registry_error.specs.declared.RegistryRejection.{RegistryRejection}
use Rattle.registry_error.specs.declared.RegistryRejection.TheVariants.{Malformed, NoRoom}
use Rattle.registry_inception.specs.InceptionFolds as N
use Rattle.registry.specs.RegistryFolds as R
use Rattle.registry_issue.specs.IssueFolds as I
use Rattle.registry_credential_state.specs.CredentialFolds as C
use Rattle.ledger_reading.specs.Pairs.{Pair}
use Rattle.ledger_reading.specs.Ledgers.{held_of}
use Rattle.ledger_reading.specs.Steps.{Effect, after_fold, with_room, held_now}
use Rattle.ledger_reading.specs.Steps.Effect.{refuse, new_registry, set_registry, new_row, set_row}
use Rattle.ledger_reading.specs.Names.{decodes}
use Rattle.ledger_reading.proofs.RequestLaws.{unread}
use Rattle.ledger_answers.specs.declared.Found.{Found}
use Rattle.ledger_answers.specs.declared.Change.{Change}
use Rattle.ledger_answers.specs.declared.Change.TheVariants as V
use Rattle.ledger_answers.specs.Checks.{if_read, inception_named, rotation_named, issue_named, revocation_named, Makes}

-- a refusal, where a change was to be answered
abbrev refusing : Answer → Result Change RegistryRejection
refusing (Ok u) = Err Malformed
refusing (Err r) = Err r

module _ (f : Found RegistryState) (o : Found CredentialState) where
  -- a is what a fold answers, and e the change behind it
  module _ (s : List ℕ) (a : Answer) (e : Effect) (one : decodes s ≡ false → a ≡ Err Malformed) where
    fold-refuses : (r : RegistryRejection) → a ≡ Err r → Makes (if_read s (after_fold a e)) f o (Err r)
    fold-refuses r p = go (decodes s) refl
      where
        go : (t : Bool) → decodes s ≡ t → Makes (cond t (after_fold a e) (refuse Malformed)) f o (Err r)
        go true d = subst (λ (z : Answer). Makes (after_fold z e) f o (Err r)) (sym p) refl
        go false d = ap refusing (sym p ∙ one d)

    fold-accepts : (x : Result Change RegistryRejection) → a ≡ Ok tt → Makes e f o x → Makes (if_read s (after_fold a e)) f o x
    fold-accepts x p h = go (decodes s) refl
      where
        go : (t : Bool) → decodes s ≡ t → Makes (cond t (after_fold a e) (refuse Malformed)) f o x
        go true d = subst (λ (z : Answer). Makes (after_fold z e) f o x) (sym p) h
        go false d = absurd (true≢false (ap accepts (sym p ∙ one d)))

  module _ (n limit : ℕ) (e : Effect) where
    with-room : (x : Result Change RegistryRejection) → n < limit → Makes e f o x → Makes (with_room n limit e) f o x
    with-room x h m = subst (λ (t : Bool). Makes (cond t e (refuse NoRoom)) f o x) (sym (lt-ltb n limit h)) m

    no-room : limit ≤ n → Makes (with_room n limit e) f o (Err NoRoom)
    no-room h = subst (λ (t : Bool). Makes (cond t e (refuse NoRoom)) f o (Err NoRoom)) (sym (le-ltb n limit h)) refl

-- a registry that keeps to its layout, as it is held
held-now : (g : RegistryState) (h : Registry) → view_registry g ≡ h → well_registry g ≡ true → held_of g ≡ held_now h
held-now g h e w = λ i. record { well = w i; state = e i }

-- ---- a fold of bytes that are no attempt answers 1
module _ (s : List ℕ) (h : decodes s ≡ false) where
  -- also of states that break their layout
  either : {X : Type 0} (answer : X → Answer) (t : Bool) (x y : X) → answer x ≡ Err Malformed → answer y ≡ Err Malformed → answer (cond t x y) ≡ Err Malformed
  either answer true x y e f = e
  either answer false x y e f = f

  inception-unread : (N.incept_of s).answer ≡ Err Malformed
  unfolding N.incept_of
  inception-unread = ap (λ (d : Decoded). (N.incept_decoded d).answer) (unread s h)

  rotation-unread : (g : RegistryState) → (R.ingest_of g s).answer ≡ Err Malformed
  unfolding R.ingest_of
  rotation-unread g =
      either (λ (o : N.Outcome). o.answer) (well_registry g) _ _ (ap (λ (d : Decoded). (R.ingest_decoded (view_registry g) d).answer) (unread s h)) refl

  issue-unread : (g : RegistryState) → (I.incept_of g s).answer ≡ Err Malformed
  unfolding I.incept_of
  issue-unread g =
      either (λ (o : I.Outcome). o.answer) (well_registry g) _ _ (ap (λ (d : Decoded). (I.incept_decoded (view_registry g) d).answer) (unread s h)) refl

  revocation-unread : (g : RegistryState) (w : CredentialState) → (C.ingest_of g w s).answer ≡ Err Malformed
  unfolding C.ingest_of
  revocation-unread g w =
      either (λ (o : I.Outcome). o.answer) (well_registry g && well_credential w) _ _ (ap (λ (d : Decoded). (C.ingest_decoded (view_registry g) w d).answer) (unread s h)) refl

-- ---- what the definition answers where the code's fold answers x, and the state behind it
module _ (g : Registry) (x : Result RegistryState RegistryRejection) (e : N.Outcome) (is : N.view_outcome g x ≡ e) where
  registry-refused : (r : RegistryRejection) → x ≡ Err r → e.answer ≡ Err r
  registry-refused r p = ap (λ (y : N.Outcome). y.answer) (sym is ∙ ap (N.view_outcome g) p)

  registry-accepted : (h : RegistryState) → x ≡ Ok h → e.answer ≡ Ok tt
  registry-accepted h p = ap (λ (y : N.Outcome). y.answer) (sym is ∙ ap (N.view_outcome g) p)

  registry-held : IfOk x (λ h. well_registry h ≡ true) → (h : RegistryState) → x ≡ Ok h → held_of h ≡ held_now e.state
  registry-held within h p =
      held-now h e.state (ap (λ (y : N.Outcome). y.state) (ap (N.view_outcome g) (sym p) ∙ is))
      (subst (λ (y : Result RegistryState RegistryRejection). IfOk y (λ h. well_registry h ≡ true)) p within)

module _ (w : CredentialState) (x : Result CredentialState RegistryRejection) (e : I.Outcome) (is : I.view_outcome w x ≡ e) where
  row-refused : (r : RegistryRejection) → x ≡ Err r → e.answer ≡ Err r
  row-refused r p = ap (λ (y : I.Outcome). y.answer) (sym is ∙ ap (I.view_outcome w) p)

  row-accepted : (v : CredentialState) → x ≡ Ok v → e.answer ≡ Ok tt
  row-accepted v p = ap (λ (y : I.Outcome). y.answer) (sym is ∙ ap (I.view_outcome w) p)

  row-held : (v : CredentialState) → x ≡ Ok v → v ≡ e.state
  row-held v p = ap (λ (y : I.Outcome). y.state) (ap (I.view_outcome w) (sym p) ∙ is)

-- ---- behind each fold; x is what the code's fold answers
module _ (s : List ℕ) (f : Found RegistryState) (o : Found CredentialState) where
  module _ (x : Result RegistryState RegistryRejection) where
    -- a vcp
    module _ (new : f.state ≡ None) (is : N.view_outcome no_registry x ≡ N.incept_of s) where
      abbrev incepted : Result Change RegistryRejection → Type 0
      incepted y = Makes (if_read s (inception_named s f.state f.count)) f o y

      abbrev with_registry : Effect
      with_registry = with_room f.count 16 (new_registry (N.incept_of s).state)

      inception-by : (y : Result Change RegistryRejection) → Makes (if_read s (after_fold (N.incept_of s).answer with_registry)) f o y → incepted y
      inception-by y h = subst (λ (z : Option RegistryState). Makes (if_read s (inception_named s z f.count)) f o y) (sym new) h

      pub inception-refused : (r : RegistryRejection) → x ≡ Err r → incepted (Err r)
      inception-refused r p =
          inception-by (Err r)
          (fold-refuses f o s (N.incept_of s).answer with_registry (inception-unread s) r (registry-refused no_registry x (N.incept_of s) is r p))

      pub inception-full : (g : RegistryState) → x ≡ Ok g → 16 ≤ f.count → incepted (Err NoRoom)
      inception-full g p h =
          inception-by (Err NoRoom)
          (fold-accepts f o s (N.incept_of s).answer with_registry (inception-unread s) (Err NoRoom) (registry-accepted no_registry x (N.incept_of s) is g p)
          (no-room f o f.count 16 (new_registry (N.incept_of s).state) h))

      pub inception-made : IfOk x (λ g. well_registry g ≡ true) → (g : RegistryState) → x ≡ Ok g → f.count < 16 → incepted (Ok (V.Registry f.count g (f.count + 1)))
      inception-made within g p h =
          let y : Result Change RegistryRejection = Ok (V.Registry f.count g (f.count + 1)) in
          inception-by y
          (fold-accepts f o s (N.incept_of s).answer with_registry (inception-unread s) y (registry-accepted no_registry x (N.incept_of s) is g p)
          (with-room f o f.count 16 (new_registry (N.incept_of s).state) y h (g, registry-held no_registry x (N.incept_of s) is within g p, refl)))

    -- a vrt
    module _ (id : Said) (g : RegistryState) (there : f.state ≡ Some g) (is : N.view_outcome (view_registry g) x ≡ R.ingest_of g s) where
      abbrev rotated : Result Change RegistryRejection → Type 0
      rotated y = Makes (if_read s (rotation_named s id f.state)) f o y

      abbrev next_registry : Effect
      next_registry = set_registry id (R.ingest_of g s).state

      rotation-by : (y : Result Change RegistryRejection) → Makes (if_read s (after_fold (R.ingest_of g s).answer next_registry)) f o y → rotated y
      rotation-by y h = subst (λ (z : Option RegistryState). Makes (if_read s (rotation_named s id z)) f o y) (sym there) h

      pub rotation-refused : (r : RegistryRejection) → x ≡ Err r → rotated (Err r)
      rotation-refused r p =
          rotation-by (Err r)
          (fold-refuses f o s (R.ingest_of g s).answer next_registry (λ h. rotation-unread s h g) r (registry-refused (view_registry g) x (R.ingest_of g s) is r p))

      pub rotation-made : IfOk x (λ h. well_registry h ≡ true) → (h : RegistryState) → x ≡ Ok h → rotated (Ok (V.Registry f.at h f.count))
      rotation-made within h p =
          let y : Result Change RegistryRejection = Ok (V.Registry f.at h f.count) in
          rotation-by y
          (fold-accepts f o s (R.ingest_of g s).answer next_registry (λ k. rotation-unread s k g) y (registry-accepted (view_registry g) x (R.ingest_of g s) is h p)
          (h, registry-held (view_registry g) x (R.ingest_of g s) is within h p, refl))

  module _ (g : RegistryState) (there : f.state ≡ Some g) (x : Result CredentialState RegistryRejection) where
    -- an iss or bis
    module _ (new : o.state ≡ None) (is : I.view_outcome no_credential x ≡ I.incept_of g s) where
      abbrev issued : Result Change RegistryRejection → Type 0
      issued y = Makes (if_read s (issue_named s f.state o.state o.count)) f o y

      abbrev with_row : Effect
      with_row = with_room o.count 256 (new_row (I.incept_of g s).state)

      issue-by : (y : Result Change RegistryRejection) → Makes (if_read s (after_fold (I.incept_of g s).answer with_row)) f o y → issued y
      issue-by y h =
          subst (λ (z : Option RegistryState). Makes (if_read s (issue_named s z o.state o.count)) f o y) (sym there)
          (subst (λ (z : Option CredentialState). Makes (if_read s (issue_named s (Some g) z o.count)) f o y) (sym new) h)

      pub issue-refused : (r : RegistryRejection) → x ≡ Err r → issued (Err r)
      issue-refused r p =
          issue-by (Err r)
          (fold-refuses f o s (I.incept_of g s).answer with_row (λ h. issue-unread s h g) r (row-refused no_credential x (I.incept_of g s) is r p))

      pub issue-full : (w : CredentialState) → x ≡ Ok w → 256 ≤ o.count → issued (Err NoRoom)
      issue-full w p h =
          issue-by (Err NoRoom)
          (fold-accepts f o s (I.incept_of g s).answer with_row (λ k. issue-unread s k g) (Err NoRoom) (row-accepted no_credential x (I.incept_of g s) is w p)
          (no-room f o o.count 256 (new_row (I.incept_of g s).state) h))

      pub issue-made : (w : CredentialState) → x ≡ Ok w → o.count < 256 → issued (Ok (V.Row o.count w (o.count + 1)))
      issue-made w p h =
          let y : Result Change RegistryRejection = Ok (V.Row o.count w (o.count + 1)) in
          issue-by y
          (fold-accepts f o s (I.incept_of g s).answer with_row (λ k. issue-unread s k g) y (row-accepted no_credential x (I.incept_of g s) is w p)
          (with-room f o o.count 256 (new_row (I.incept_of g s).state) y h
          (ap (λ (z : CredentialState). Ok (V.Row o.count z (o.count + 1))) (row-held no_credential x (I.incept_of g s) is w p))))

    -- a rev or brv
    module _ (k : Pair) (w : CredentialState) (listed : o.state ≡ Some w) (is : I.view_outcome w x ≡ C.ingest_of g w s) where
      abbrev revoked : Result Change RegistryRejection → Type 0
      revoked y = Makes (if_read s (revocation_named s k f.state o.state)) f o y

      abbrev next_row : Effect
      next_row = set_row k (C.ingest_of g w s).state

      revocation-by : (y : Result Change RegistryRejection) → Makes (if_read s (after_fold (C.ingest_of g w s).answer next_row)) f o y → revoked y
      revocation-by y h =
          subst (λ (z : Option RegistryState). Makes (if_read s (revocation_named s k z o.state)) f o y) (sym there)
          (subst (λ (z : Option CredentialState). Makes (if_read s (revocation_named s k (Some g) z)) f o y) (sym listed) h)

      pub revocation-refused : (r : RegistryRejection) → x ≡ Err r → revoked (Err r)
      revocation-refused r p =
          revocation-by (Err r)
          (fold-refuses f o s (C.ingest_of g w s).answer next_row (λ h. revocation-unread s h g w) r (row-refused w x (C.ingest_of g w s) is r p))

      pub revocation-made : (v : CredentialState) → x ≡ Ok v → revoked (Ok (V.Row o.at v o.count))
      revocation-made v p =
          let y : Result Change RegistryRejection = Ok (V.Row o.at v o.count) in
          revocation-by y
          (fold-accepts f o s (C.ingest_of g w s).answer next_row (λ h. revocation-unread s h g w) y (row-accepted w x (C.ingest_of g w s) is v p)
          (ap (λ (z : CredentialState). Ok (V.Row o.at z o.count)) (row-held w x (C.ingest_of g w s) is v p)))
