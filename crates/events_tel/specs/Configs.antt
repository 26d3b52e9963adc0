-- Configuration traits, and lists of their bytes (docs/RULES.md, "Configuration traits").
use Rattle.std.specs.Prelude.{ℕ, Option, Some, None, List, [], ◌∷◌, ◌++◌, Bool, false, cond, ◌||◌, length, take, eqb, ltb}
use Rattle.events_tel.specs.declared.Configs.{Configs}
use Rattle.events_tel.specs.declared.ConfigTrait.{ConfigTrait}
use Rattle.events_tel.specs.declared.ConfigTrait.TheVariants.{EstOnly, DoNotDelegate, NoBackers, RegistrarBackers, NoRegistrarBackers, DelegateIsDelegator}

-- a trait's byte is its place
abbrev pub code_of : ConfigTrait → ℕ
code_of EstOnly = 1
code_of DoNotDelegate = 2
code_of NoBackers = 3
code_of RegistrarBackers = 4
code_of NoRegistrarBackers = 5
code_of DelegateIsDelegator = 6

unfoldable pub trait_of : ℕ → Option ConfigTrait
trait_of n =
    cond (eqb n 1) (Some EstOnly)
    (cond (eqb n 2) (Some DoNotDelegate)
    (cond (eqb n 3) (Some NoBackers)
    (cond (eqb n 4) (Some RegistrarBackers)
    (cond (eqb n 5) (Some NoRegistrarBackers)
    (cond (eqb n 6) (Some DelegateIsDelegator)
    None)))))

-- the bytes as a list: as many as are counted, and never more than 8
unfoldable pub view_configs : Configs → List ℕ
view_configs c = take c.count c.codes

-- 8 are held at most
unfoldable pub has_room : List ℕ → Bool
has_room l = ltb (length l) 8

-- one more behind the last, where there is room
unfoldable pub pushed : List ℕ → ℕ → List ℕ
pushed l code = cond (has_room l) (l ++ (code ∷ [])) l

-- whether a byte is in the list
unfoldable pub has_code : ℕ → List ℕ → Bool
has_code code [] = false
has_code code (x ∷ l) = eqb x code || has_code code l

-- whether the trait NoBackers is in the list
unfoldable pub no_backers : List ℕ → Bool
no_backers l = has_code (code_of NoBackers) l
