-- How findings are counted.
use Rattle.std.specs.Prelude.{ℕ, ◌+◌, ◌-◌, ◌^◌, List, [], ◌∷◌, Bool, true, cond, ◌&&◌, ltb, get_or, set, replicate}
use Rattle.tally.specs.declared.Count.{Count}
use Rattle.tally.specs.declared.Tally.{Tally}

-- one more where the test holds; a count at its end stays there
abbrev pub plus_of : ℕ → Bool → ℕ
plus_of n test = cond (test && ltb n (2 ^ 64 - 1)) (n + 1) n

-- each count with its test
unfoldable pub each_plus : List ℕ → List Bool → List ℕ
each_plus [] ts = []
each_plus (n ∷ ns) [] = n ∷ ns
each_plus (n ∷ ns) (t ∷ ts) = plus_of n t ∷ each_plus ns ts

unfoldable pub counted_of : {k : ℕ} → Count k → List Bool → Count k
counted_of c tests = record { all = plus_of c.all true; held = each_plus c.held tests }

abbrev pub no_count : (k : ℕ) → Count k
no_count k = record { all = 0; held = replicate k 0 }

abbrev pub no_tally : (k n : ℕ) → Tally k n
no_tally k n = record { places = replicate n (no_count k); total = no_count k }

-- past the last place the counts at the places stay as they are
unfoldable pub tallied_of : {k n : ℕ} → Tally k n → ℕ → List Bool → Tally k n
tallied_of {k} t place tests =
    record
    { places = set t.places place (counted_of (get_or t.places place (no_count k)) tests); total = counted_of t.total tests }
