-- Lists of backers, and the rules on a list and on what a rotation cuts from it and adds to it (docs/RULES.md, "Lists of backers").
use Rattle.std.specs.Prelude.{ℕ, ◌<◌, ◌≡◌, Bool, true, false, not, cond, ◌||◌, List, [], ◌∷◌, ◌++◌, length, get_or, take, ltb, Result, Ok, Err}
use Rattle.cesr.specs.First.{first}
use Rattle.cesr.specs.declared.BasicPrefix.{BasicPrefix}
use Rattle.cesr.specs.Primitives.{none, eq_prefix}
use Rattle.events.specs.declared.Members.{Members}
use Rattle.events.specs.declared.Rule.{Rule}
use Rattle.events.specs.declared.Rule.TheVariants.{DuplicateBacker, DuplicateCut, DuplicateAddition, CutAddOverlap, RemovalNotCurrent, AdditionAlreadyPresent}
use Rattle.events.specs.declared.Broken.{Broken}

-- the members, as a list: the array's elements before the count
unfoldable pub view : Members → List BasicPrefix
view m = take m.count m.items

-- what stands at a place where there is no member
abbrev pub no_prefix : BasicPrefix
no_prefix = record { 0 = none }

abbrev pub at : List BasicPrefix → ℕ → BasicPrefix
at l i = get_or l i no_prefix

-- the list with p behind it, or as it was where it has 16 members
unfoldable pub pushed : List BasicPrefix → BasicPrefix → List BasicPrefix
pushed l p = cond (ltb (length l) 16) (l ++ (p ∷ [])) l

-- whether x is in the list
unfoldable pub has : BasicPrefix → List BasicPrefix → Bool
has x [] = false
has x (y ∷ l) = eq_prefix y x || has x l

-- the number of a rule among the details of refusal 24
abbrev pub rule_of : Rule → ℕ
rule_of DuplicateBacker = 1
rule_of DuplicateCut = 2
rule_of DuplicateAddition = 3
rule_of CutAddOverlap = 4
rule_of RemovalNotCurrent = 5
rule_of AdditionAlreadyPresent = 6

-- what the rules answer: nothing is broken, or a rule is, by the element at a position
abbrev pub Membership : Type 0
Membership = Result Unit Broken

abbrev pub sound : Membership
sound = Ok tt

abbrev pub broken : Rule → ℕ → Membership
broken r i = Err (record { rule = r; at = i })

-- the number of the answer: 0, or refusal 24
abbrev pub membership_number : Membership → ℕ
membership_number (Ok u) = 0
membership_number (Err b) = 24

-- whether the element at place i of l breaks the rule; o is the list that the element is held against, and a repeat needs none.
-- A repeat is an element that stands before its place too, so it is found at its second appearance.
unfoldable pub breaks : Rule → List BasicPrefix → List BasicPrefix → ℕ → Bool
breaks DuplicateBacker l o i = has (at l i) (take i l)
breaks DuplicateCut l o i = has (at l i) (take i l)
breaks DuplicateAddition l o i = has (at l i) (take i l)
breaks CutAddOverlap l o i = has (at l i) o
breaks RemovalNotCurrent l o i = not (has (at l i) o)
breaks AdditionAlreadyPresent l o i = has (at l i) o

-- whether a rule is about an element that stands in its own list before
abbrev pub is_repeat : Rule → Bool
is_repeat DuplicateBacker = true
is_repeat DuplicateCut = true
is_repeat DuplicateAddition = true
is_repeat CutAddOverlap = false
is_repeat RemovalNotCurrent = false
is_repeat AdditionAlreadyPresent = false

-- whether a rule is broken by an element that is not in the other list
abbrev pub is_missing : Rule → Bool
is_missing DuplicateBacker = false
is_missing DuplicateCut = false
is_missing DuplicateAddition = false
is_missing CutAddOverlap = false
is_missing RemovalNotCurrent = true
is_missing AdditionAlreadyPresent = false

-- one rule on a list: sound, or broken at the least place that breaks it
unfoldable pub check : Rule → List BasicPrefix → List BasicPrefix → Membership
check r l o = cond (ltb (first (breaks r l o) (length l)) (length l)) (broken r (first (breaks r l o) (length l))) sound

-- the first refusal of two
abbrev pub or_else : Membership → Membership → Membership
or_else (Ok u) b = b
or_else (Err x) b = Err x

unfoldable pub check_members : List BasicPrefix → Membership
check_members backers = check DuplicateBacker backers []

unfoldable pub check_deltas : List BasicPrefix → List BasicPrefix → Membership
check_deltas cuts additions = or_else (check DuplicateCut cuts []) (or_else (check DuplicateAddition additions []) (check CutAddOverlap cuts additions))

unfoldable pub check_current : List BasicPrefix → List BasicPrefix → List BasicPrefix → Membership
check_current current cuts additions = or_else (check RemovalNotCurrent cuts current) (check AdditionAlreadyPresent additions current)

-- the lists that the rules speak of: the backers, and what a rotation cuts and adds
pub record Lists : Type 0 where
  pub backers : List BasicPrefix
  pub cuts : List BasicPrefix
  pub additions : List BasicPrefix

-- the list in which a rule's position counts
abbrev pub subject : Rule → Lists → List BasicPrefix
subject DuplicateBacker s = s.backers
subject DuplicateCut s = s.cuts
subject DuplicateAddition s = s.additions
subject CutAddOverlap s = s.cuts
subject RemovalNotCurrent s = s.cuts
subject AdditionAlreadyPresent s = s.additions

-- the list that its elements are held against
abbrev pub against : Rule → Lists → List BasicPrefix
against DuplicateBacker s = []
against DuplicateCut s = []
against DuplicateAddition s = []
against CutAddOverlap s = s.additions
against RemovalNotCurrent s = s.backers
against AdditionAlreadyPresent s = s.backers

-- where an answer names a rule and a position, the element there breaks the rule
unfoldable pub Offends : Membership → Lists → Type 0
Offends (Ok u) s = Unit
Offends (Err b) s = (b.at < length (subject b.rule s)) × (breaks b.rule (subject b.rule s) (against b.rule s) b.at ≡ true)
