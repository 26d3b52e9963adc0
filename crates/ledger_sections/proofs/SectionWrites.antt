-- How a section of registries is written, one registry at a time, as a loop goes.
--     head-room, head-full     what the count leaves and answers, with room for the section and without
--     following                how many registries follow the count
--     wrote                    the buffer when i registries are written
--     wrote_none, wrote-more, wrote-all   none, one more, and all of them
--     next-room                each registry finds room
use Prim.Native.Nat.{ℕ, zero, suc, ◌+◌, ◌-◌, ◌<◌, ◌≤◌}
use mathlib.Core.Path.{◌≡◌, refl, ap, sym, ◌∙◌, subst}
use mathlib.Core.Bool.{Bool, true, false, cond}
use mathlib.Core.List.{List}
use native.Mathlib.Nat.{add-zero, add-suc}
use native.Mathlib.Omega.{arith}
use borrow.Author.Tests.{le-leb, lt-leb, leb-true, leb-false}
use lib.Dec.{leb}
use lib.ListN.{length, get_or, length-append}
use lib.Seq.{sets, length-sets}
use Rattle.laws.specs.Number.{digits}
use Rattle.laws.specs.Room.{put}
use Rattle.laws.proofs.Number.{length_digits}
use Rattle.laws.proofs.Room.{put-sets, put-none, length-put, sets-append}
use Rattle.registry_state.specs.States.{view_registry, registry_bytes}
use Rattle.registry_state.specs.declared.RegistryState.{RegistryState}
use Rattle.ledger_sections.specs.RegistrySections.{section_of}
use Rattle.ledger_sections.proofs.SectionSizes.{blank, bytes_of, bytes-none, bytes-more, sized, sized-more, sized-all, used, section-of}

pub head-room : (size n r : ℕ) (out last : List ℕ) → size ≤ length out → r ≡ n → last ≡ put out 0 (digits 2 r) → (r ≡ cond (leb size (length out)) n 0) × (last ≡ cond (leb size (length out)) (put out 0 (digits 2 n)) out)
head-room size n r out last h e f = (rw (le-leb size (length out) h) e, rw (le-leb size (length out) h, ← e) f)

pub head-full : (size n : ℕ) (out : List ℕ) → length out < size → (0 ≡ cond (leb size (length out)) n 0) × (out ≡ cond (leb size (length out)) (put out 0 (digits 2 n)) out)
head-full size n out h = (rw (lt-leb size (length out) h), rw (lt-leb size (length out) h))

module _ (xs : List RegistryState) where
  -- more registries have no fewer bytes
  sized-up : (i k : ℕ) → i + k ≤ length xs → sized xs i ≤ sized xs (i + k)
  sized-up i zero h = rw (add-zero i) (omega arith)
  sized-up i (suc k) h =
      let e : suc (i + k) ≡ i + suc k = sym (add-suc i k) in
      let m : sized xs (i + k) ≤ sized xs (i + suc k) = subst (λ (j : ℕ). sized xs (i + k) ≤ sized xs j) e (omega (arith, sized-more xs (i + k) (omega arith))) in
      omega (arith, sized-up i k (omega arith), m)

  pub sized-fits : (i n : ℕ) → i ≤ n → n ≤ length xs → sized xs i ≤ sized xs n
  sized-fits i n h l = let e : i + (n - i) ≡ n = omega arith in subst (λ (j : ℕ). sized xs i ≤ sized xs j) e (sized-up i (n - i) (omega arith))

module _ (xs : List RegistryState) (count : ℕ) (bs : List ℕ) where
  -- whether the buffer has room for the section
  abbrev pub fits : Bool
  fits = leb (length (section_of xs count)) (length bs)

  abbrev pub following : ℕ
  following = cond fits (used xs count) 0

  -- the buffer with the count
  abbrev pub headed : List ℕ
  headed = cond fits (put bs 0 (digits 2 (used xs count))) bs

  abbrev pub wrote : ℕ → List ℕ
  wrote i = sets headed 2 (bytes_of xs i)

  pub few-following : following ≤ used xs count
  few-following = go fits
    where
      go : (t : Bool) → cond t (used xs count) 0 ≤ used xs count
      go true = omega arith
      go false = omega arith

  pub wrote_none : headed ≡ wrote 0
  wrote_none = rw (bytes-none xs)

  pub headed-long : length headed ≡ length bs
  headed-long = go fits
    where
      go : (t : Bool) → length (cond t (put bs 0 (digits 2 (used xs count))) bs) ≡ length bs
      go true = length-put bs 0 (digits 2 (used xs count))
      go false = refl

  pub wrote-long : (i : ℕ) → length (wrote i) ≡ length bs
  wrote-long i = length-sets headed 2 (bytes_of xs i) ∙ headed-long

  pub wrote-more : (i : ℕ) → i < length xs → sets (wrote i) (sized xs i) (registry_bytes (view_registry (get_or xs i blank))) ≡ wrote (suc i)
  unfolding sized
  wrote-more i l = sym (sets-append headed 2 (bytes_of xs i) (registry_bytes (view_registry (get_or xs i blank)))) ∙ ap (λ (l : List ℕ). sets headed 2 l) (sym (bytes-more xs i l))

  -- registry i of those that follow
  pub next-room : (i : ℕ) → i < following → sized xs i + length (registry_bytes (view_registry (get_or xs i blank))) ≤ length bs
  next-room i h = go fits refl h
    where
      go : (t : Bool) → fits ≡ t → i < cond t (used xs count) 0 → sized xs i + length (registry_bytes (view_registry (get_or xs i blank))) ≤ length bs
      go true e h =
          omega (arith, sized-more xs i (omega arith), sized-fits xs (suc i) (used xs count) (omega arith) (omega arith), sized-all xs count, leb-true (length (section_of xs count)) (length bs) e)
      go false e h = absurd (omega arith)

  pub wrote-all : wrote following ≡ put bs 0 (section_of xs count)
  wrote-all = go fits refl
    where
      go : (t : Bool) → fits ≡ t → sets (cond t (put bs 0 (digits 2 (used xs count))) bs) 2 (bytes_of xs (cond t (used xs count) 0)) ≡ put bs 0 (section_of xs count)
      go true e =
          let n = used xs count in
          let h : length (section_of xs count) ≤ length bs = leb-true (length (section_of xs count)) (length bs) e in
          let d : length (digits 2 n) ≡ 2 = length_digits 2 n in
          let two : 2 ≤ length (section_of xs count) = rw (section-of xs count, length-append, d) (omega arith) in
          let p : put bs 0 (digits 2 n) ≡ sets bs 0 (digits 2 n) = put-sets bs 0 2 (digits 2 n) d (omega (arith, h, two)) in
          rw (p, put-sets bs 0 (length (section_of xs count)) (section_of xs count) refl (omega (arith, h)), section-of xs count, sets-append, d)
      go false e =
          rw (bytes-none xs, put-none bs 0 (length (section_of xs count)) (section_of xs count) refl (omega (arith, leb-false (length (section_of xs count)) (length bs) e)))
