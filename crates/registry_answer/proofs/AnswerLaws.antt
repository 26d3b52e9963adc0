-- What `?` hands on.
--     same-refusal, handed-on
--     or-nothing, first-behind   checks one by one
-- What an accepted chain of checks says of each of them.
--     or-first, or-second   both parts accept
--     passed                a check that accepts has a test that holds
-- What checks made one after the other come to, where each that refuses is returned.
--     first-refused, first-failed     the first that refuses decides
--     first-accepted, first-passed    one that accepts gives way to the rest
--     first-last                      the last decides by itself
-- The same of a check that was answered, by the test whether it accepts.
--     or-passes, or-refuses           of two checks
--     first_passes, first-refuses     of a chain
use mathlib.Core.Path.{◌≡◌, refl, ap, sym, ◌∙◌}
use mathlib.Core.List.{List, [], ◌∷◌, ◌++◌}
use mathlib.Core.Bool.{Bool, true, false, false≢true}
use Rattle.registry_answer.specs.Answers.{accepts, accept_if, or_else, first_of}
use Rattle.registry_error.specs.Errors.{Answer}
use Rattle.std.proofs.Common.{Result, Ok, Err, IsErrAnd}
use Rattle.registry_error.specs.declared.RegistryRejection.{RegistryRejection}

-- `?` hands a refusal on
pub same-refusal : {A : Type 0} (q r : RegistryRejection) → ◌≡◌ {A = Result A RegistryRejection} (Err q) (Err r) → q ≡ r
same-refusal q r e = cc

pub handed-on : {A : Type 0} (x : Result A RegistryRejection) (r : RegistryRejection) → IsErrAnd x (λ q. q ≡ r) → x ≡ Err r
handed-on (Ok a) r h = absurd h
handed-on (Err q) r h = ap (λ (k : RegistryRejection). Err k) h

pub or-nothing : (x : Answer) → or_else x (Ok tt) ≡ x
or-nothing (Ok u) = refl
or-nothing (Err r) = refl

-- one more check behind the last
pub first-behind : (l : List Answer) (x : Answer) → first_of (l ++ (x ∷ [])) ≡ or_else (first_of l) x
unfolding first_of
first-behind [] x = or-nothing x
first-behind ((Ok u) ∷ l) x = first-behind l x
first-behind ((Err r) ∷ l) x = refl

pub or-first : (x y : Answer) → accepts (or_else x y) ≡ true → accepts x ≡ true
or-first (Ok u) y h = refl
or-first (Err r) y h = h

pub or-second : (x y : Answer) → accepts (or_else x y) ≡ true → accepts y ≡ true
or-second (Ok u) y h = h
or-second (Err r) y h = absurd (false≢true h)

pub passed : (t : Bool) (r : RegistryRejection) → accepts (accept_if t r) ≡ true → t ≡ true
unfolding accept_if
passed true r h = refl
passed false r h = h

pub first-refused : (x : Answer) (l : List Answer) → accepts x ≡ false → first_of (x ∷ l) ≡ x
unfolding first_of
first-refused (Ok u) l h = absurd (false≢true (sym h))
first-refused (Err r) l h = refl

pub first-accepted : (x : Answer) (l : List Answer) → accepts x ≡ true → first_of (x ∷ l) ≡ first_of l
unfolding first_of
first-accepted (Ok u) l h = refl
first-accepted (Err r) l h = absurd (false≢true h)

pub first-failed : (t : Bool) (r : RegistryRejection) (l : List Answer) → t ≡ false → first_of (accept_if t r ∷ l) ≡ Err r
unfolding first_of accept_if
first-failed t r l h = rw h

pub first-passed : (t : Bool) (r : RegistryRejection) (l : List Answer) → t ≡ true → first_of (accept_if t r ∷ l) ≡ first_of l
unfolding first_of accept_if
first-passed t r l h = rw h

pub first-last : (x : Answer) → first_of (x ∷ []) ≡ x
unfolding first_of
first-last (Ok u) = refl
first-last (Err r) = refl

pub or-passes : (x y z : Answer) (t : Bool) → x ≡ y → t ≡ accepts x → t ≡ true → or_else y z ≡ z
or-passes x (Ok u) z t e f h = refl
or-passes x (Err r) z t e f h = absurd (false≢true (sym (f ∙ ap accepts e) ∙ h))

pub or-refuses : (x y z : Answer) (t : Bool) → x ≡ y → t ≡ accepts x → t ≡ false → or_else y z ≡ x
or-refuses x (Ok u) z t e f h = absurd (false≢true (sym h ∙ (f ∙ ap accepts e)))
or-refuses x (Err r) z t e f h = sym e

pub first_passes : (x y : Answer) (l : List Answer) (t : Bool) → x ≡ y → t ≡ accepts x → t ≡ true → first_of (y ∷ l) ≡ first_of l
unfolding first_of
first_passes x y l t e f h = or-passes x y (first_of l) t e f h

pub first-refuses : (x y : Answer) (l : List Answer) (t : Bool) → x ≡ y → t ≡ accepts x → t ≡ false → first_of (y ∷ l) ≡ x
unfolding first_of
first-refuses x y l t e f h = or-refuses x y (first_of l) t e f h
