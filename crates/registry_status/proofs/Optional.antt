-- A section of at most one element, read as an Option.
--     section-optional    it is a section whose limit is 1
use Prim.Native.Nat.{ℕ}
use mathlib.Core.Path.{◌≡◌, refl}
use mathlib.Core.List.{List, [], ◌∷◌}
use mathlib.Core.Bool.{Bool, true, false}
use borrow.Author.Tests.{eqb-true, eqb-false}
use lib.Dec.{eqb}
use Rattle.std.proofs.Common.{Option, Some, None}
use Rattle.codec_cursor.specs.declared.Cursor.{Cursor}
use Rattle.codec_cursor.specs.declared.Read.{Read}
use Rattle.codec_cursor.specs.Readers.{Reader, viewed, count_up_to, section}
use Rattle.codec.proofs.Loops.{section-none, section-one}
use Rattle.registry_status.specs.Statuses.{IsOptional}

-- `list` is what an option stands for, and `view` what its element does
module _ {T A : Type 0} (p : Reader A) (view : T → A) (list : Option T → List A) where
  pub section-optional : (s : List ℕ) (c : Cursor) (reads : Read T → Type 0) (r : Read (Option T)) → list None ≡ [] → ((x : T) → list (Some x) ≡ view x ∷ []) → IsOptional (count_up_to 1 s c) reads r → ((x : Read T) → reads x → viewed view x ≡ p s (count_up_to 1 s c).next) → viewed list r ≡ section 1 p s c
  section-optional s c reads r none one h read = go (eqb n.value 0) refl
    where
      n : Read ℕ
      n = count_up_to 1 s c

      go : (t : Bool) → eqb n.value 0 ≡ t → viewed list r ≡ section 1 p s c
      go true e =
          let z = eqb-true n.value 0 e in
          rw (section-none p s c 1 n refl z, h.0 z, none)
      go false e =
          let z = eqb-false n.value 0 e in
          let w = h.1 z in
          rw (section-one p s c n refl z, w.2, one w.0.value, ← read w.0 w.1)
