-- The marks of the rows that were checked, by which most rows need no search for their key.
--     Told              for each remainder of a first word, how many rows stand up to the last that has it
--     told_none, told-next, told-others    at first, with one row more, and what they tell of a row
--     row-tested-near   the tests of a row whose key was looked for only where it can be
use Prim.Native.Nat.{ℕ, zero, suc, ◌+◌, ◌*◌, ◌%◌, ◌≤◌, ◌<◌}
use mathlib.Core.Path.{◌≡◌, refl, ap, sym, subst, ◌∙◌}
use mathlib.Core.Bool.{Bool, true, false, not, ◌&&◌, or-false}
use mathlib.Core.List.{List}
use native.Mathlib.Omega.{arith}
use native.Mathlib.Decide.{ℕ_discrete, dec_le}
use lib.Dec.{ltb}
use lib.ListN.{length, get_or, set, replicate, get_or-replicate, length-set, length-replicate}
use lib.Seq.{get_or-set_same, get_or-set_other}
use Rattle.laws.specs.Number.{number_at}
use Rattle.cesr_sn.specs.Numbers.{value}
use Rattle.cesr.specs.Primitives.{eq_said}
use Rattle.cesr.specs.declared.Said.{Said}
use Rattle.codec_cursor.specs.Readers.{placed}
use Rattle.codec_cursor.specs.declared.Read.{Read}
use Rattle.registry_state_credential.specs.CredentialStates.{read_credential}
use Rattle.registry_state_credential.specs.declared.CredentialState.{CredentialState}
use Rattle.ledger_image_ids.specs.Pairs.{Pair, key_of}
use Rattle.ledger_image_ids.specs.Tables.{has}
use Rattle.ledger_image_ids.specs.Ledgers.{eq_pair}
use Rattle.ledger_image_rows_check.specs.RowTests.{key_at, keys_from, row_passes}
use Rattle.ledger_image_rows_check.specs.Marks.{word_of, OthersDiffer}
use Rattle.ledger_image_ids.proofs.OneMore.{has-snoc}
use Rattle.ledger_image_rows_check.proofs.RowChecks.{first_word, row_read, row-tested, other_word}

module _ (s : List ℕ) (at : ℕ) where
  abbrev pub slot_of : ℕ → ℕ
  slot_of i = word_of s at i % 1024

  -- no mark is more than the rows that were met, and each of them stands before the mark of its remainder
  pub record Told (i : ℕ) (marks : List ℕ) : Type 0 where
    pub size : length marks ≡ 1024
    pub most : (j : ℕ) → j < 1024 → get_or marks j 0 ≤ i
    pub before : (k : ℕ) → k < i → k < get_or marks (slot_of k) 0

  pub told_none : Told 0 (replicate 1024 0)
  told_none = record {
    size = length-replicate {A = ℕ} 1024 0;
    most = λ j b. let e = get_or-replicate {A = ℕ} 1024 j 0 0 b in omega (arith, e);
    before = λ k b. absurd (omega (arith, b));
  }

  module _ (i : ℕ) (marks : List ℕ) (h : Told i marks) where
    slot-in : slot_of i < length marks
    slot-in = let e = h.size in omega (arith, e)

    pub told-next : Told (i + 1) (set marks (slot_of i) (i + 1))
    told-next = record {
      size = length-set marks (slot_of i) (i + 1) ∙ h.size;
      most = λ j b. most-at j b (ℕ_discrete j (slot_of i));
      before = λ k b. before_at k b (ℕ_discrete (slot_of k) (slot_of i));
    }
      where
        here : get_or (set marks (slot_of i) (i + 1)) (slot_of i) 0 ≡ i + 1
        here = get_or-set_same marks (slot_of i) (i + 1) 0 slot-in

        most-at : (j : ℕ) → j < 1024 → Dec (j ≡ slot_of i) → get_or (set marks (slot_of i) (i + 1)) j 0 ≤ i + 1
        most-at j b (yes e) = let q : get_or (set marks (slot_of i) (i + 1)) j 0 ≡ i + 1 = rw e here in omega (arith, q)
        most-at j b (no d) = let q = get_or-set_other marks (slot_of i) j (i + 1) 0 d in let m = h.most j b in omega (arith, q, m)

        before_at : (k : ℕ) → k < i + 1 → Dec (slot_of k ≡ slot_of i) → k < get_or (set marks (slot_of i) (i + 1)) (slot_of k) 0
        before_at k b (yes e) = let q : get_or (set marks (slot_of i) (i + 1)) (slot_of k) 0 ≡ i + 1 = rw e here in omega (arith, q, b)
        before_at k b (no d) =
            let q = get_or-set_other marks (slot_of i) (slot_of k) (i + 1) 0 d in
            let l : k < i = go (ℕ_discrete k i) in
            let m = h.before k l in
            omega (arith, q, m)
          where
            go : Dec (k ≡ i) → k < i
            go (yes e) = absurd (d (ap slot_of e))
            go (no f) = omega (arith, b, f)

    pub told-others : OthersDiffer s at i (get_or marks (slot_of i) 0)
    told-others =
        (h.most (slot_of i) (omega arith), λ k a b q. let m : k < get_or marks (slot_of i) 0 = subst (λ (x : ℕ). k < get_or marks (x % 1024) 0) q (h.before k b) in omega (arith, a, m))

  -- rows with another first word have another key
  nearer : (i n : ℕ) (k : Pair) → at + 115 * i ≤ length s → OthersDiffer s at i n → k.credential.0.w0 ≡ word_of s at i → (m : ℕ) → n ≤ m → m ≤ i → has eq_pair k (keys_from s at n) ≡ has eq_pair k (keys_from s at m)
  unfolding keys_from word_of
  nearer i n k b o e zero l u = let z : n ≡ zero = omega (arith, l) in ap (λ (x : ℕ). has eq_pair k (keys_from s at x)) z
  nearer i n k b o e (suc m) l u = elim (dec_le n m) [
    | yes q ↦ nearer i n k b o e m q (omega (arith, u)) ∙ sym (one_more m q u)
    | no q ↦ let z : n ≡ suc m = omega (arith, l, q) in ap (λ (x : ℕ). has eq_pair k (keys_from s at x)) z
  ]
    where
      unlike : (m : ℕ) → n ≤ m → suc m ≤ i → false ≡ eq_pair (key_at s (at + 115 * m)) k
      unlike m q u = other_word s (at + 115 * m) k (word_of s at m) (omega (arith, b, u)) refl (λ p. o.1 m q u (p ∙ e))

      one_more : (m : ℕ) → n ≤ m → suc m ≤ i → has eq_pair k (keys_from s at (suc m)) ≡ has eq_pair k (keys_from s at m)
      one_more m q u = has-snoc eq_pair k (key_at s (at + 115 * m)) (keys_from s at m) ∙ rw (← unlike m q u) (or-false (has eq_pair k (keys_from s at m)))

  -- a row that was read has the first word that stands there; one that was not passes neither way
  pub row-tested-near : (ids : List Said) (i n : ℕ) (w : Read CredentialState) (home low other : Bool) → at + 115 * i + 115 ≤ length s → OthersDiffer s at i n → w ≡ read_credential s (placed (at + 115 * i)) → home ≡ has eq_said w.value.registry ids → low ≡ ltb (value w.value.sn) 2 → other ≡ has eq_pair (key_of w.value) (keys_from s at n) → (w.next.ok && (home && (low && not other))) ≡ row_passes s at ids i
  unfolding row_passes key_at word_of
  row-tested-near ids i n w home low other b o e h l f = go w.next.ok refl
    where
      word : w.next.ok ≡ true → w.value.credential.0.w0 ≡ word_of s at i
      word t =
          let r = row_read s (placed (at + 115 * i)) (ap (λ (x : Read CredentialState). x.next.ok) (sym e) ∙ t) in
          let k : key_of w.value ≡ key_at s (at + 115 * i) = ap (λ (x : Read CredentialState). key_of x.value) e ∙ r.key in
          ap (λ (x : Pair). x.credential.0.w0) k ∙ first_word s (at + 115 * i + 33) (omega (arith, b)) ∙ ap (λ (x : ℕ). number_at s x 8) (omega arith)

      go : (t : Bool) → w.next.ok ≡ t → (w.next.ok && (home && (low && not other))) ≡ row_passes s at ids i
      go true t = row-tested s at ids i w home low other e h l (f ∙ nearer i n (key_of w.value) (omega (arith, b)) o (word t) i o.0 (omega arith))
      go false t = rw (← e, t)
