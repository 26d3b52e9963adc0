-- What an accepted chain of checks says of each of them.
--     all-accept                every check accepts
--     set-sound                 a check of lists that accepts found nothing
--     else-first, else-second   where two checks of lists together found nothing, each found nothing
use mathlib.Core.Path.{◌≡◌, refl, ap}
use mathlib.Core.List.{List, [], ◌∷◌}
use mathlib.Core.Bool.{true, false≢true}
use Rattle.std.specs.Prelude.{Ok, Err}
use Rattle.events.specs.Members.{Membership, sound, or_else}
use Rattle.registry_answer.specs.Answers.{accepts, backer_set, first_of}
use Rattle.registry_error.specs.Errors.{Answer}
use Rattle.registry.specs.Starred.{All}
use Rattle.registry_answer.proofs.AnswerLaws.{or-first, or-second}

pub all-accept : (l : List Answer) → accepts (first_of l) ≡ true → All (λ x. accepts x ≡ true) l
unfolding first_of
all-accept [] h = tt
all-accept (x ∷ l) h = (or-first x (first_of l) h, all-accept l (or-second x (first_of l) h))

pub set-sound : (x : Membership) → accepts (backer_set x) ≡ true → x ≡ sound
set-sound (Ok u) h = refl
set-sound (Err b) h = absurd (false≢true h)

pub else-first : (a b : Membership) → or_else a b ≡ sound → a ≡ sound
else-first (Ok u) b h = refl
else-first (Err x) b h = h

pub else-second : (a b : Membership) → or_else a b ≡ sound → b ≡ sound
else-second (Ok u) b h = h
else-second (Err x) b h = absurd (false≢true (ap (λ (x : Membership). accepts (backer_set x)) h))
