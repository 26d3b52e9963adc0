-- The reading rules of one registry, in the order in which the code asks them.
--     has-any                 a search through the backers before one
--     unlettered, repeats     one backer: its letter, and whether it stands before
--     backers-pass            all of them
--     in_order                layout, limits and reading rules as one chain of tests
use Prim.Native.Nat.{ℕ, ◌<◌}
use mathlib.Core.Path.{◌≡◌, refl, sym, ap, ◌∙◌}
use mathlib.Core.Bool.{Bool, true, false, not, ◌&&◌, ◌||◌, and-false, false≢true}
use mathlib.Core.List.{List, [], ◌∷◌}
use lib.Dec.{eqb, leb}
use lib.ListN.{length, take}
use Rattle.std.specs.List.{list_any}
use Rattle.cesr.specs.Primitives.{is_basic, is_said, eq_prefix}
use Rattle.cesr.specs.declared.BasicPrefix.{BasicPrefix}
use Rattle.std.specs.Prelude.{Ok, Err}
use Rattle.events.specs.Members.{view, no_prefix, at, has, Membership, check_members}
use Rattle.events.proofs.MemberLaws.{sound-distinct, distinct-sound}
use Rattle.events_tel.specs.Configs.{view_configs, no_backers}
use Rattle.events_toad.specs.Toads.{exact_ok}
use Rattle.codec_cursor.specs.Readers.{is_identifier}
use Rattle.codec.specs.Events.{is_config}
use Rattle.codec.specs.Layout.{all}
use Rattle.registry_state.specs.States.{view_registry, well_registry, is_backer}
use Rattle.registry_state.specs.declared.RegistryState.{RegistryState}
use Rattle.registry_state.proofs.StateLoops.{all_pass, all-fail}
use Rattle.registry_answer.specs.Answers.{accepts, backer_set}
use Rattle.registry_laws.specs.ReadingRules.{sound_registry}

repeated : (l : List BasicPrefix) (i : ℕ) → i < length l → has (at l i) (take i l) ≡ true → accepts (backer_set (check_members l)) ≡ false
repeated l i b h = go (check_members l) refl
  where
    go : (m : Membership) → check_members l ≡ m → accepts (backer_set m) ≡ false
    go (Ok u) e = absurd (false≢true (sym (sound-distinct l e i b) ∙ h))
    go (Err x) e = refl

pub has-any : (x : BasicPrefix) (l : List BasicPrefix) → list_any (λ y. eq_prefix y x) l ≡ has x l
unfolding has
has-any x [] = refl
has-any x (y ∷ l) = ap (λ (t : Bool). eq_prefix y x || t) (has-any x l)

-- what both rules say of a list
abbrev sound : List BasicPrefix → Bool
sound l = all is_backer l && accepts (backer_set (check_members l))

-- a backer whose letter is none fails the list, and so does one that stands before its place too
pub unlettered : (l : List BasicPrefix) (i : ℕ) → i < length l → is_backer (at l i) ≡ false → false ≡ sound l
unlettered l i b h = rw (all-fail is_backer no_prefix l i b h)

pub repeats : (l : List BasicPrefix) (i : ℕ) → i < length l → has (at l i) (take i l) ≡ true → false ≡ sound l
repeats l i b h = rw (repeated l i b h) (sym (and-false (all is_backer l)))

pub backers-pass : (l : List BasicPrefix) → ((i : ℕ) → i < length l → is_backer (at l i) ≡ true) → ((i : ℕ) → i < length l → has (at l i) (take i l) ≡ false) → true ≡ sound l
backers-pass l h k = rw (all_pass is_backer no_prefix l h, distinct-sound l k)

in-order-by : (a b c d e f k m x y : Bool) → (a && (b && (c && (d && (e && (f && ((k && m) && (x && y)))))))) ≡ ((a && (b && (c && (d && (e && (f && k)))))) && (m && (x && y)))
in-order-by false b c d e f k m x y = refl
in-order-by true false c d e f k m x y = refl
in-order-by true true false d e f k m x y = refl
in-order-by true true true false e f k m x y = refl
in-order-by true true true true false f k m x y = refl
in-order-by true true true true true false k m x y = refl
in-order-by true true true true true true false m x y = refl
in-order-by true true true true true true true m x y = refl

pub in_order : (g : RegistryState) → (leb g.configs.count 8 && (leb g.backers.count 16 && (is_said g.id.0 && ((is_basic g.issuer || is_said g.issuer) && (is_said g.latest.0 && (all is_config (view_configs g.configs) && ((all is_backer (view g.backers) && accepts (backer_set (check_members (view g.backers)))) && (exact_ok g.toad.0 (length (view g.backers)) && (not (no_backers (view_configs g.configs)) || eqb (length (view g.backers)) 0))))))))) ≡ (well_registry g && sound_registry (view_registry g))
unfolding well_registry sound_registry is_identifier
in_order g =
    in-order-by (leb g.configs.count 8) (leb g.backers.count 16) (is_said g.id.0) (is_basic g.issuer || is_said g.issuer) (is_said g.latest.0) (all is_config (view_configs g.configs)) (all is_backer (view g.backers)) (accepts (backer_set (check_members (view g.backers)))) (exact_ok g.toad.0 (length (view g.backers))) (not (no_backers (view_configs g.configs)) || eqb (length (view g.backers)) 0)
