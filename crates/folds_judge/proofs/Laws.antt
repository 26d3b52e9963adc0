-- Laws of what is compared.
--     written, filled   bytes that were stored at the start of a buffer with room for them, or just so much
--     whole-viewed, some-whole, told   what is read to the end of its bytes
--     good-well         a credential's state that is read is well formed
--     blank-registry, blank-credential   the bytes where no state is handed in
--     and-kept          a second test that holds
--     part-run          a part from one place to another
use Prim.Native.Nat.{ℕ, ◌+◌, ◌≤◌}
use mathlib.Core.Path.{◌≡◌, refl, sym, subst, ◌∙◌}
use mathlib.Core.Bool.{Bool, true, false, cond, ◌&&◌}
use mathlib.Core.List.{List, ◌++◌}
use native.Mathlib.Nat.{add-sub_cancel_left}
use native.Mathlib.Omega.{arith}
use lib.Dec.{eqb}
use lib.ListN.{length, take, drop, replicate}
use lib.Seq.{sets, sets-eq, take_all, take-append_seam}
use Rattle.std.proofs.Common.{Some, None, option_map, IfSome}
use Rattle.laws.specs.Number.{Bytes, digits}
use Rattle.laws.specs.Room.{put}
use Rattle.laws.proofs.Room.{put-sets, length-put}
use Rattle.laws.proofs.Tests.{and_left, and_right}
use Rattle.cesr.specs.Primitives.{is_said, matter_bytes}
use Rattle.codec_cursor.specs.Numbers.{sn_bytes, value}
use Rattle.codec_cursor.specs.Readers.{Reader, starting}
use Rattle.codec_cursor.specs.declared.Read.{Read}
use Rattle.codec_laws.specs.Layout.{is_matter, good_said, good_sn, section_bytes, joined}
use Rattle.codec_laws.proofs.Codes.{Codes}
use Rattle.codec_laws.proofs.CodesRound.{whole-sound}
use Rattle.registry_state.specs.States.{registry_bytes, no_registry}
use Rattle.registry_state_credential.specs.CredentialStates.{credential_bytes, good_credential, well_credential, no_credential}
use Rattle.registry_state_credential.specs.declared.CredentialState.{CredentialState}
use Rattle.registry_wire.specs.Attempts.{part_of}
use Rattle.folds_judge.specs.Judgement.{part}

pub written : (l vs : List ℕ) → length vs ≤ length l → take (length vs) (put l 0 vs) ≡ vs
written l vs h =
    let p : put l 0 vs ≡ sets l 0 vs = put-sets l 0 (length vs) vs refl (omega arith) in
    let q : sets l 0 vs ≡ take 0 l ++ vs ++ drop (0 + length vs) l = sets-eq vs l 0 (omega arith) in
    rw (p, q) (take-append_seam vs (drop (0 + length vs) l))

pub filled : (l vs : List ℕ) → length vs ≡ length l → put l 0 vs ≡ vs
filled l vs e =
    sym (take_all (length vs) (put l 0 vs) (omega (arith, length-put l 0 vs))) ∙ written l vs (omega arith)

pub whole-viewed : {A B : Type 0} (f : A → B) (t : Bool) (x : A) → option_map f (cond t (Some x) None) ≡ cond t (Some (f x)) None
whole-viewed f true x = refl
whole-viewed f false x = refl

pub some-whole : {A : Type 0} (t : Bool) (x : A) (P : A → Type 0) → (t ≡ true → P x) → IfSome (cond t (Some x) None) P
some-whole true x P h = h refl
some-whole false x P h = tt

-- bytes that are read to their end are those of what they give
pub told : {A : Type 0} {p : Reader A} {bytes : A → List ℕ} {good : A → Bool} → Codes p bytes good → (s : List ℕ) (q : Read A) → Bytes s → q ≡ p s starting → (q.next.ok && eqb q.next.at (length s)) ≡ true → (s ≡ bytes q.value) × (good q.value ≡ true)
told {A} {p} {bytes} {good} k s q b e =
    subst (λ (r : Read A). (r.next.ok && eqb r.next.at (length s)) ≡ true → (s ≡ bytes r.value) × (good r.value ≡ true)) (sym e) (whole-sound k s b)

pub good-well : (w : CredentialState) → good_credential w ≡ true → well_credential w ≡ true
unfolding good_credential good_said well_credential
good-well w h =
    let h1 = and_right (good_said w.registry) _ h in
    let h2 = and_right (good_said w.credential) _ h1 in
    let h3 = and_right (good_sn w.sn) _ h2 in
    rw (and_left (is_said w.registry.0) (is_matter w.registry.0) (and_left (good_said w.registry) _ h), and_left (is_said w.credential.0) (is_matter w.credential.0) (and_left (good_said w.credential) _ h1), and_left (is_said w.head.0) (is_matter w.head.0) h3)

pub blank-registry : registry_bytes no_registry ≡ replicate 121 0
unfolding registry_bytes matter_bytes digits sn_bytes value section_bytes joined
blank-registry = refl

pub blank-credential : credential_bytes no_credential ≡ replicate 115 0
unfolding credential_bytes matter_bytes digits sn_bytes value
blank-credential = refl

pub and-kept : (a b : Bool) → b ≡ true → a ≡ (a && b)
and-kept true b h = sym h
and-kept false b h = refl

pub part-run : (s : List ℕ) (from to n : ℕ) → to ≡ from + n → part_of s (record { from = from; to = to }) ≡ part s from n
unfolding part_of part
part-run s from to n e = rw (e, add-sub_cancel_left from n)
