-- Two cases that are their byte alone, 0 and 2: how they are read and written, for any type that has them.
use Prim.Native.Nat.{ℕ}
use mathlib.Core.Path.{◌≡◌, refl, sym, subst, ◌∙◌}
use mathlib.Core.List.{List, [], ◌∷◌}
use mathlib.Core.Bool.{Bool, true, false, cond, ◌||◌}
use borrow.Author.Tests.{eqb-true}
use lib.Dec.{eqb}
use Rattle.laws.specs.Number.{Bytes}
use Rattle.codec.specs.declared.Cursor.{Cursor}
use Rattle.codec.specs.Readers.{need, read_byte}
use Rattle.codec.specs.declared.Read.{Read}
use Rattle.codec_laws.proofs.Stands.{Stands, Passed, passed}
use Rattle.codec_laws.proofs.Codes.{Told, codes-byte}

or-first : (x y : Bool) → y ≡ false → (x || y) ≡ true → x ≡ true
or-first true y f g = refl
or-first false y f g = sym f ∙ g

module _ {A : Type 0} (nought two : A) where
  abbrev pub plain : ℕ → Cursor → Read A
  plain k d = record { value = cond (eqb k 2) two nought; next = need d (eqb k 0 || eqb k 2) }

  pub plain-told : (bytes : A → List ℕ) (good : A → Bool) → bytes nought ≡ 0 ∷ [] → bytes two ≡ 2 ∷ [] → good nought ≡ true → good two ≡ true → (s : List ℕ) (c : Cursor) → Bytes s → (plain (read_byte s c).value (read_byte s c).next).next.ok ≡ true → Told bytes good s c (plain (read_byte s c).value (read_byte s c).next)
  plain-told bytes good b0 b2 g0 g2 s c b h = go (eqb k 2) refl (passed d (eqb k 0 || eqb k 2) h)
    where
      k : ℕ
      k = (read_byte s c).value

      d : Cursor
      d = (read_byte s c).next

      told : (x : A) (n : ℕ) → bytes x ≡ n ∷ [] → good x ≡ true → k ≡ n → Passed d (eqb k 0 || eqb k 2) → Told bytes good s c (record { value = x; next = need d (eqb k 0 || eqb k 2) })
      told x n e g q w =
          let t = codes-byte.sound s c b w.ok in
          record {
            ok = t.ok;
            stands = subst (λ (l : List ℕ). Stands s c.at l) (sym e) (subst (λ (m : ℕ). Stands s c.at (m ∷ [])) q t.stands);
            next = w.stays ∙ t.next ∙ rw e;
            limits = g;
          }

      go : (t : Bool) → eqb k 2 ≡ t → Passed d (eqb k 0 || eqb k 2) → Told bytes good s c (record { value = cond t two nought; next = need d (eqb k 0 || eqb k 2) })
      go true q w = told two 2 b2 g2 (eqb-true k 2 q) w
      go false q w = told nought 0 b0 g0 (eqb-true k 0 (or-first (eqb k 0) (eqb k 2) q w.test)) w
