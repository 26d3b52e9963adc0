-- Answers, and the order of checks (docs/RULES.md, "Orders").
use Rattle.std.specs.Prelude.{List, [], ◌∷◌, Bool, true, false, cond, Result, Ok, Err}
use Rattle.events.specs.Members.{Membership}
use Rattle.registry_error.specs.declared.RegistryRejection.{RegistryRejection}
use Rattle.registry_error.specs.declared.RegistryRejection.TheVariants.{BackerSet}
use Rattle.registry_error.specs.Errors.{Answer}

abbrev pub accepts : Answer → Bool
accepts (Ok u) = true
accepts (Err r) = false

-- the answer of a call that hands back more than an answer
abbrev pub answered : {A : Type 0} → Result A RegistryRejection → Answer
answered (Ok a) = Ok tt
answered (Err r) = Err r

-- a check: the refusal, unless the test holds
unfoldable pub accept_if : Bool → RegistryRejection → Answer
accept_if test refusal = cond test (Ok tt) (Err refusal)

-- the rules on lists of backers, as a check
abbrev pub backer_set : Membership → Answer
backer_set (Ok u) = Ok tt
backer_set (Err b) = Err (BackerSet b.rule b.at)

-- of two checks the first that refuses decides
abbrev pub or_else : Answer → Answer → Answer
or_else (Ok u) b = b
or_else (Err r) b = Err r

-- and so of any number of them, in their order
unfoldable pub first_of : List Answer → Answer
first_of [] = Ok tt
first_of (x ∷ l) = or_else x (first_of l)
