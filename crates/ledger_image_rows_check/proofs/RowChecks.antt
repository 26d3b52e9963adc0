-- The rows of an image, as they are checked one by one where they stand.
--     row_read     a row that was read: 115 bytes, right letters, its key
--     key-next, other_word, row-tested   the search for a key, and the tests of one row
--     rows-read    rows that were read one behind the other stand 115 bytes apart
--     rows-well    and have right letters
--     pass-rows    each passes exactly where all are read, no two have one key, each sn is 0 or 1 and each registry is held
use Prim.Native.Nat.{ℕ, zero, suc, ◌+◌, ◌*◌, ◌≤◌}
use mathlib.Core.Path.{◌≡◌, refl, sym, ap, ◌∙◌}
use mathlib.Core.Bool.{Bool, true, false, not, ◌&&◌, ◌||◌, and-true as and-unit, and-false, true≢false}
use mathlib.Core.List.{List, [], ◌∷◌, ◌++◌, map, map-append}
use native.Mathlib.Numerals.{add-one}
use native.Mathlib.Omega.{arith}
use borrow.Author.Tests.{ne_eqb}
use lib.Dec.{eqb, ltb, leb, leb-suc-suc}
use lib.ListN.{length}
use Rattle.laws.specs.Number.{number_at}
use Rattle.laws.proofs.Number.{whole-number}
use Rattle.laws.proofs.Room.{true-room}
use Rattle.cesr_sn.specs.Numbers.{value}
use Rattle.cesr.specs.Primitives.{eq_said, is_said, read_matter, eq_matter}
use Rattle.cesr.specs.declared.Matter.{Matter}
use Rattle.cesr.specs.declared.Said.{Said}
use Rattle.codec_cursor.specs.declared.Cursor.{Cursor}
use Rattle.codec_cursor.specs.Readers.{placed, advanced, said_of, read_if, read_said, read_number, times}
use Rattle.codec_cursor.specs.declared.Read.{Read}
use Rattle.codec.specs.Layout.{all}
use Rattle.codec_laws.proofs.Stands.{went, passed}
use Rattle.codec_laws.proofs.Codes.{and-true}
use Rattle.codec_laws.proofs.CodesList.{all_snoc}
use Rattle.registry_state_credential.specs.CredentialStates.{read_credential, well_credential}
use Rattle.registry_state_credential.specs.declared.CredentialState.{CredentialState}
use Rattle.ledger_image_ids.specs.Pairs.{Pair, key_of}
use Rattle.ledger_image_ids.specs.Tables.{has, distinct}
use Rattle.ledger_image_ids.specs.Ledgers.{eq_pair, has_registry, zero_or_one}
use Rattle.ledger_image_ids.proofs.Rules.{pair-test}
use Rattle.ledger_image_rows_check.specs.RowTests.{key_at, keys_from, row_passes, rows_pass}
use Rattle.ledger_image_ids.proofs.OneMore.{has-snoc, distinct_snoc}

pub first_word : (s : List ℕ) (at : ℕ) → at + 33 ≤ length s → (read_matter s at).w0 ≡ number_at s (at + 1) 8
unfolding read_matter
first_word s at b = rw (true-room s at 33 b) (sym (whole-number s (at + 1) 8 (omega (arith, b))))

other-matter : (a b : Matter) → (a.w0 ≡ b.w0 → ⊥) → eq_matter a b ≡ false
unfolding eq_matter
other-matter a b h = rw (ne_eqb a.w0 b.w0 h, and-false (eqb a.code b.code))

record SaidRead (s : List ℕ) (c : Cursor) : Type 0 where
  before : c.ok ≡ true
  next : (read_said s c).next ≡ placed (c.at + 33)
  letter : is_said (read_matter s c.at) ≡ true

said_read : (s : List ℕ) (c : Cursor) → (read_said s c).next.ok ≡ true → SaidRead s c
unfolding read_said read_if
said_read s c h =
    let p = passed (advanced s c 33) (is_said (read_matter s c.at)) h in
    let w = went s c 33 p.ok in
    record { before = w.ok; next = p.stays ∙ w.goes; letter = p.test }

number_read : (s : List ℕ) (c : Cursor) → (read_number s c).next.ok ≡ true → (c.ok ≡ true) × ((read_number s c).next ≡ placed (c.at + 16))
unfolding read_number
number_read s c h = let w = went s c 16 h in (w.ok, w.goes)

pub record RowRead (s : List ℕ) (c : Cursor) : Type 0 where
  pub before : c.ok ≡ true
  pub next : (read_credential s c).next ≡ placed (c.at + 115)
  pub key : key_of (read_credential s c).value ≡ key_at s c.at
  pub well : well_credential (read_credential s c).value ≡ true

pub row_read : (s : List ℕ) (c : Cursor) → (read_credential s c).next.ok ≡ true → RowRead s c
unfolding read_credential well_credential key_at read_said read_if
row_read s c h =
    let c1 = (read_said s c).next in
    let c2 = (read_said s c1).next in
    let c3 = (read_number s c2).next in
    let d = said_read s c3 h in
    let n = number_read s c2 d.before in
    let b = said_read s c1 n.0 in
    let a = said_read s c b.before in
    let e1 : c1.at ≡ c.at + 33 = ap (λ (x : Cursor). x.at) a.next in
    let e2 : c2.at ≡ c1.at + 33 = ap (λ (x : Cursor). x.at) b.next in
    let e3 : c3.at ≡ c2.at + 16 = ap (λ (x : Cursor). x.at) n.1 in
    let e : c3.at + 33 ≡ c.at + 115 = omega (arith, e1, e2, e3) in
    record {
      before = a.before;
      next = d.next ∙ ap placed e;
      key = ap (λ (i : ℕ). record { registry = said_of (read_matter s c.at); credential = said_of (read_matter s i) }) e1;
      well = and-true _ _ a.letter (and-true _ _ b.letter d.letter);
    }

-- one turn of the search for a key
pub key-next : (s : List ℕ) (at i : ℕ) (k : Pair) (found same : Bool) → found ≡ has eq_pair k (keys_from s at i) → same ≡ eq_pair (key_at s (at + 115 * i)) k → (found || same) ≡ has eq_pair k (keys_from s at (i + 1))
unfolding keys_from
key-next s at i k found same e f = rw (add-one, has-snoc eq_pair k (key_at s (at + 115 * i)) (keys_from s at i), e, f)

-- the tests of one row
pub row-tested : (s : List ℕ) (at : ℕ) (ids : List Said) (n : ℕ) (w : Read CredentialState) (home low other : Bool) → w ≡ read_credential s (placed (at + 115 * n)) → home ≡ has eq_said w.value.registry ids → low ≡ ltb (value w.value.sn) 2 → other ≡ has eq_pair (key_of w.value) (keys_from s at n) → (w.next.ok && (home && (low && not other))) ≡ row_passes s at ids n
unfolding row_passes
row-tested s at ids n w home low other e h l o =
    let z : low ≡ leb (value w.value.sn) 1 = l ∙ leb-suc-suc (value w.value.sn) 1 in rw (← e, h, z, o)

-- a first word that differs tells that the keys do
pub other_word : (s : List ℕ) (at : ℕ) (k : Pair) (x : ℕ) → at + 115 ≤ length s → x ≡ number_at s (at + 34) 8 → (x ≡ k.credential.0.w0 → ⊥) → false ≡ eq_pair (key_at s at) k
unfolding key_at
other_word s at k x b e h =
    let w : (read_matter s (at + 33)).w0 ≡ x = first_word s (at + 33) (omega (arith, b)) ∙ ap (λ (i : ℕ). number_at s i 8) (omega arith) ∙ sym e in
    sym (rw (other-matter (read_matter s (at + 33)) k.credential.0 (λ q. h (sym w ∙ q))) (and-false (eq_matter (read_matter s at) k.registry.0)))

module _ (ids : List Said) where
  -- the rules that rows keep, together
  abbrev pub rows_keep : List CredentialState → Bool
  rows_keep ws = distinct eq_pair (map key_of ws) && (all zero_or_one ws && all (has_registry ids) ws)

  -- and one row behind others
  abbrev row_keeps : List CredentialState → CredentialState → Bool
  row_keeps ws w = has_registry ids w && (zero_or_one w && not (has eq_pair (key_of w) (map key_of ws)))

  one_more : (ws : List CredentialState) (w : CredentialState) → rows_keep (ws ++ (w ∷ [])) ≡ (rows_keep ws && row_keeps ws w)
  one_more ws w =
      rw (map-append key_of ws (w ∷ []), distinct_snoc eq_pair pair-test (map key_of ws) (key_of w), all_snoc zero_or_one ws w, all_snoc (has_registry ids) ws w)
      (go (distinct eq_pair (map key_of ws)) (not (has eq_pair (key_of w) (map key_of ws))) (all zero_or_one ws) (zero_or_one w) (all (has_registry ids) ws) (has_registry ids w))
    where
      go : (d f l z r h : Bool) → ((d && f) && ((l && z) && (r && h))) ≡ ((d && (l && r)) && (h && (z && f)))
      go false f l z r h = refl
      go true f false z r h = and-false f
      go true f true z false h = rw (and-false z, and-false f)
      go true f true z true false = rw (and-false z, and-false f)
      go true f true false true true = and-false f
      go true f true true true true = and-unit f

module _ (s : List ℕ) (at : ℕ) where
  abbrev rows_of : ℕ → Read (List CredentialState)
  rows_of n = times n read_credential s (placed at)

  pub rows-read : (n : ℕ) → (rows_of n).next.ok ≡ true → ((rows_of n).next ≡ placed (at + 115 * n)) × (map key_of (rows_of n).value ≡ keys_from s at n)
  unfolding times keys_from
  rows-read zero h = (ap placed (omega arith), refl)
  rows-read (suc n) h =
      let d = (rows_of n).next in
      let w = row_read s d h in
      let before = rows-read n w.before in
      let e : d.at ≡ at + 115 * n = ap (λ (x : Cursor). x.at) before.0 in
      let k : key_of (read_credential s d).value ≡ key_at s (at + 115 * n) = w.key ∙ ap (key_at s) e in
      (w.next ∙ ap placed (omega (arith, e)), map-append key_of (rows_of n).value ((read_credential s d).value ∷ []) ∙ rw (before.1, k))

  pub rows-well : (n : ℕ) → (rows_of n).next.ok ≡ true → all well_credential (rows_of n).value ≡ true
  unfolding times all
  rows-well zero h = refl
  rows-well (suc n) h =
      let w = row_read s (rows_of n).next h in
      all_snoc well_credential (rows_of n).value (read_credential s (rows_of n).next).value ∙ and-true _ _ (rows-well n w.before) w.well

  module _ (ids : List Said) where
    -- behind rows that were read, a row is tested where the cursor stands
    here : (n : ℕ) → (rows_of n).next.ok ≡ true → row_passes s at ids n ≡ ((read_credential s (rows_of n).next).next.ok && row_keeps ids (rows_of n).value (read_credential s (rows_of n).next).value)
    unfolding row_passes
    here n o =
        let r = rows-read n o in
        let e : read_credential s (placed (at + 115 * n)) ≡ read_credential s (rows_of n).next = ap (read_credential s) (sym r.0) in
        rw (e, ← r.1)

    pub pass-rows : (n : ℕ) → rows_pass s at ids n ≡ ((rows_of n).next.ok && rows_keep ids (rows_of n).value)
    unfolding times rows_pass all distinct
    pass-rows zero = refl
    pass-rows (suc n) = go (rows_of n).next.ok refl (pass-rows n)
      where
        moved : (a o b : Bool) → (a && (o && b)) ≡ (o && (a && b))
        moved true o b = refl
        moved false o b = sym (and-false o)

        stops : (rows_of n).next.ok ≡ false → (o : Bool) → (read_credential s (rows_of n).next).next.ok ≡ o → o ≡ false
        stops f true e = absurd (true≢false (sym (row_read s (rows_of n).next e).before ∙ f))
        stops f false e = refl

        go : (o : Bool) → (rows_of n).next.ok ≡ o → rows_pass s at ids n ≡ ((rows_of n).next.ok && rows_keep ids (rows_of n).value) → (rows_pass s at ids n && row_passes s at ids n) ≡ ((read_credential s (rows_of n).next).next.ok && rows_keep ids ((rows_of n).value ++ ((read_credential s (rows_of n).next).value ∷ [])))
        go true o ih =
            rw (ih, o, here n o, one_more ids (rows_of n).value (read_credential s (rows_of n).next).value)
            (moved (rows_keep ids (rows_of n).value) (read_credential s (rows_of n).next).next.ok (row_keeps ids (rows_of n).value (read_credential s (rows_of n).next).value))
        go false o ih = rw (ih, o, stops o (read_credential s (rows_of n).next).next.ok refl)
