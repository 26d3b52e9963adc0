-- Laws of configuration traits and of lists of their bytes.
--     trait-code, code-trait    a trait's byte reads back as the trait, and no other byte does
--     view-size, view-at        the list that a struct holds
--     room-below, room-full     when there is room for one more
--     view-push, view-full      what becomes of the list
--     pointwise_same, any_has   what the library's tests of slices say of them
use Prim.Native.Nat.{ℕ, ◌+◌, ◌<◌, ◌≤◌, min}
use mathlib.Core.Path.{◌≡◌, refl}
use mathlib.Core.Bool.{Bool, true, false, cond}
use Rattle.std.specs.Prelude.{Option, Some}
use mathlib.Core.List.{List, [], ◌∷◌}
use native.Mathlib.Omega.{arith}
use borrow.Author.Tests.{lt-ltb, le-ltb, eqb-true}
use lib.Dec.{eqb}
use lib.ListN.{length, get_or, set}
use Rattle.std.specs.Cmp.Lexicographic.{pointwise}
use Rattle.std.specs.List.{list_any}
use Rattle.codec_cursor.specs.Words.{same_list}
use Rattle.codec_cursor.proofs.Views.{kept-size, kept_at, kept_push}
use Rattle.events_tel.specs.declared.Configs.{Configs}
use Rattle.events_tel.specs.declared.ConfigTrait.{ConfigTrait}
use Rattle.events_tel.specs.declared.ConfigTrait.TheVariants.{EstOnly, DoNotDelegate, NoBackers, RegistrarBackers, NoRegistrarBackers, DelegateIsDelegator}
use Rattle.events_tel.specs.Configs.{code_of, trait_of, view_configs, has_room, pushed, has_code}

pub trait-code : (t : ConfigTrait) → trait_of (code_of t) ≡ Some t
unfolding trait_of
trait-code EstOnly = refl
trait-code DoNotDelegate = refl
trait-code NoBackers = refl
trait-code RegistrarBackers = refl
trait-code NoRegistrarBackers = refl
trait-code DelegateIsDelegator = refl

pub code-trait : (n : ℕ) (t : ConfigTrait) → trait_of n ≡ Some t → code_of t ≡ n
unfolding trait_of
code-trait n t =
    step 1 EstOnly _ refl
    (step 2 DoNotDelegate _ refl
    (step 3 NoBackers _ refl
    (step 4 RegistrarBackers _ refl
    (step 5 NoRegistrarBackers _ refl
    (step 6 DelegateIsDelegator _ refl
    (λ e. cc))))))
  where
    -- one test of the chain
    step : (k : ℕ) (u : ConfigTrait) (rest : Option ConfigTrait) → code_of u ≡ k → (rest ≡ Some t → code_of t ≡ n) → cond (eqb n k) (Some u) rest ≡ Some t → code_of t ≡ n
    step k u rest d h = go (eqb n k) refl
      where
        go : (b : Bool) → eqb n k ≡ b → cond b (Some u) rest ≡ Some t → code_of t ≡ n
        go true q e = let p : n ≡ k = eqb-true n k q in cc
        go false q e = h e

module _ (c : Configs) (h : length c.codes ≡ 8) where
  pub view-size : length (view_configs c) ≡ min c.count 8
  unfolding view_configs
  view-size = kept-size c.count 8 c.codes h

  pub view-at : (i : ℕ) → i < length (view_configs c) → get_or c.codes i 0 ≡ get_or (view_configs c) i 0
  unfolding view_configs
  view-at i b = kept_at c.count 8 c.codes h i 0 b

  pub room-below : c.count < 8 → has_room (view_configs c) ≡ true
  unfolding has_room
  room-below b = lt-ltb (length (view_configs c)) 8 (omega (arith, view-size))

  pub room-full : 8 ≤ c.count → has_room (view_configs c) ≡ false
  unfolding has_room
  room-full b = le-ltb (length (view_configs c)) 8 (omega (arith, view-size))

  pub view-push : (x : ℕ) → c.count < 8 → view_configs (record { codes = set c.codes c.count x; count = c.count + 1 }) ≡ pushed (view_configs c) x
  unfolding view_configs pushed
  view-push x b = rw (room-below b) (kept_push c.count 8 c.codes h x (omega (arith, kept-size c.count 8 c.codes h)))

  pub view-full : (x : ℕ) → 8 ≤ c.count → view_configs c ≡ pushed (view_configs c) x
  unfolding pushed
  view-full x b = rw (room-full b)

-- the library's test of two slices
pub pointwise_same : (a b : List ℕ) → pointwise eqb a b ≡ same_list a b
unfolding same_list
pointwise_same [] [] = refl
pointwise_same [] (y ∷ b) = refl
pointwise_same (x ∷ a) [] = refl
pointwise_same (x ∷ a) (y ∷ b) = rw (pointwise_same a b)

-- the library's test whether a byte is in a slice
pub any_has : (code : ℕ) (l : List ℕ) → list_any (λ x. eqb x code) l ≡ has_code code l
unfolding has_code
any_has code [] = refl
any_has code (x ∷ l) = rw (any_has code l)
