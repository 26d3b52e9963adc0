-- How a loop reads a section.
--     count-within    the count is at most the limit
--     times-passed    one element more that is passed
--     times-next      one element more that is read, and the cursor alone
--     length-times    so many elements are read
--     times-pushed    one element more, pushed to a list that has room for it
--     section-none, section-one   a section of at most one element, by its count
--     view-put        a prefix more, stored in its place
--     listed-read     a list that stays in the bytes
--     configs-room    a list of fewer than 8 config bytes has room for one more
use Prim.Native.Nat.{ℕ, zero, suc, ◌+◌, ◌<◌, ◌≤◌, min}
use mathlib.Core.Path.{◌≡◌, refl, ap, ◌∙◌}
use mathlib.Core.Bool.{Bool, true, false, cond}
use mathlib.Core.List.{List, [], ◌∷◌, ◌++◌}
use native.Mathlib.Omega.{arith}
use native.Mathlib.Numerals.{add-one}
use borrow.Author.Tests.{lt-ltb, leb-true}
use lib.Dec.{leb}
use lib.ListN.{length, take, set, length-append}
use Rattle.events.specs.declared.BasicPrefix.{BasicPrefix}
use Rattle.events.specs.Members.{view}
use Rattle.events.proofs.MemberLaws.{view-push}
use Rattle.events_tel.specs.TelEvents.{members_in}
use Rattle.events_tel.specs.Configs.{has_room, pushed}
use Rattle.events_tel.specs.declared.Cursor.{Cursor}
use Rattle.events_tel.specs.Readers.{Reader, stopped, need, read_byte, read_prefix, times, count_up_to, section}
use Rattle.events_tel.specs.declared.Read.{Read}
use Rattle.codec.specs.Events.{read_prefixes}

pub count-within : (limit : ℕ) (s : List ℕ) (c : Cursor) (r : Read ℕ) → r ≡ count_up_to limit s c → r.value ≤ limit
unfolding count_up_to need
count-within limit s c r e = rw e (go (leb (read_byte s c).value limit) refl)
  where
    go : (t : Bool) → leb (read_byte s c).value limit ≡ t → cond (cond t (read_byte s c).next stopped).ok (read_byte s c).value 0 ≤ limit
    go false f = omega arith
    go true f = under (read_byte s c).next.ok
      where
        under : (t : Bool) → cond t (read_byte s c).value 0 ≤ limit
        under true = leb-true (read_byte s c).value limit f
        under false = omega arith

module _ {A : Type 0} (p : Reader A) (s : List ℕ) (c : Cursor) where
  pub times-passed : (n : ℕ) (d e : Cursor) → d ≡ (times n p s c).next → e ≡ (p s d).next → e ≡ (times (n + 1) p s c).next
  unfolding times
  times-passed n d e f g = rw add-one (g ∙ ap (λ (x : Cursor). (p s x).next) f)

  pub times-next : (n : ℕ) (d : Cursor) (r : Read A) → d ≡ (times n p s c).next → r ≡ p s d → r.next ≡ (times (n + 1) p s c).next
  times-next n d r e f = times-passed n d r.next e (ap (λ (q : Read A). q.next) f)

  pub length-times : (n : ℕ) → length (times n p s c).value ≡ n
  unfolding times
  length-times zero = refl
  length-times (suc n) = rw (length-append, length-times n) (add-one n)

  pub times-pushed : (k : ℕ) (push : List A → A → List A) → ((l : List A) (x : A) → length l < k → push l x ≡ l ++ (x ∷ [])) → (n : ℕ) (l m : List A) (d : Cursor) (r : Read A) → n < k → record { value = l; next = d } ≡ times n p s c → r ≡ p s d → m ≡ push l r.value → record { value = m; next = r.next } ≡ times (n + 1) p s c
  unfolding times
  times-pushed k push room n l m d r b e f g =
      let h : length l ≡ n = ap (λ (q : Read (List A)). length q.value) e ∙ length-times n in
      rw (add-one, ← e, ← f, g, room l r.value (omega arith))

-- a prefix more, stored in its place
pub view-put : (l : List BasicPrefix) (i : ℕ) (p : BasicPrefix) → length l ≡ 16 → i < 16 → take (i + 1) (set l i p) ≡ take i l ++ (p ∷ [])
unfolding view
view-put l i p h b = view-push (record { items = l; count = i }) h p b

-- a list that stays in the bytes, behind its count
pub listed-read : (s : List ℕ) (c d : Cursor) (n : Read ℕ) → n ≡ count_up_to 16 s c → d ≡ (times n.value read_prefix s n.next).next → record { value = members_in s (record { count = n.value; start = n.next }); next = d } ≡ read_prefixes s c
unfolding members_in read_prefixes section
listed-read s c d n e f =
    let w : min n.value 16 ≡ n.value = omega (arith, count-within 16 s c n e) in
    ap (λ (k : ℕ). record { value = (times k read_prefix s n.next).value; next = d }) w ∙ rw (← e, f)

pub configs-room : (l : List ℕ) (x : ℕ) → length l < 8 → pushed l x ≡ l ++ (x ∷ [])
unfolding pushed has_room
configs-room l x b = rw (lt-ltb (length l) 8 b)

-- a section of at most one element, by its count
module _ {A : Type 0} (p : Reader A) (s : List ℕ) (c : Cursor) where
  pub section-none : (limit : ℕ) (n : Read ℕ) → n ≡ count_up_to limit s c → n.value ≡ 0 → section limit p s c ≡ record { value = []; next = n.next }
  unfolding section times
  section-none limit n e z = rw (← e, z)

  pub section-one : (n : Read ℕ) → n ≡ count_up_to 1 s c → (n.value ≡ 0 → ⊥) → section 1 p s c ≡ record { value = (p s n.next).value ∷ []; next = (p s n.next).next }
  unfolding section times
  section-one n e z =
      let b : n.value ≤ 1 = count-within 1 s c n e in
      let k : n.value ≡ 1 = omega arith in
      rw (← e, k)
