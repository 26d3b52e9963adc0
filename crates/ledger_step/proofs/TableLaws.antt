-- Laws of tables: what is found after a replacement or behind a new last element, and what both keep.
--     find-put, find-append, find-key         finding
--     map-put, all-put, all-find              what a replacement keeps, and what holds of what is found
--     distinct_append, has_more, has-find     keys
--     find-map                                finding through a map that keeps the keys
--     table_same                              a table is known by its keys and by what is found
use mathlib.Core.Path.{◌≡◌, refl, sym, ap, ◌∙◌}
use mathlib.Core.Logic.{◌≢◌}
use mathlib.Core.Bool.{Bool, true, false, cond, not, ◌||◌, true≢false, false≢true}
use mathlib.Core.Option
use mathlib.Core.Option.{Option, none, some, none-ne-some, some-ne-none, some-injective}
use mathlib.Core.List.{List, [], ◌∷◌, ◌++◌, map}
use native.Mathlib.Omega.{arith}
use borrow.Author.Tests.{not-true}
use lib.ListN.{length}
use Rattle.laws.proofs.Tests.{and_left, and_right}
use Rattle.codec.specs.Layout.{all}
use Rattle.ledger_step.specs.Tables.{has, distinct, find, put, found}

-- a test of equality
pub record Tests {K : Type 0} (eq : K → K → Bool) : Type 0 where
  pub equal : (a b : K) → eq a b ≡ true → a ≡ b
  pub same : (a : K) → eq a a ≡ true

or_left : (a b : Bool) → (a || b) ≡ false → a ≡ false
or_left true b e = absurd (true≢false e)
or_left false b e = refl

or_right : (a b : Bool) → (a || b) ≡ false → b ≡ false
or_right true b e = absurd (true≢false e)
or_right false b e = e

-- what a replacement does to what is found
abbrev pub over : {X : Type 0} → Bool → X → Option X → Option X
over false x o = o
over true x none = none
over true x (some y) = some x

-- what a new last element does to what is found
abbrev pub behind : {X : Type 0} → Option X → Option X → Option X
behind none p = p
behind (some y) p = some y

module _ {X : Type 0} where
  pub over-else : (b : Bool) (x : X) (o : Option X) → b ≢ true → over b x o ≡ o
  over-else true x o ne = absurd (ne refl)
  over-else false x o ne = refl

  pub over_none : (b : Bool) (x : X) (o : Option X) → over b x o ≡ none → o ≡ none
  over_none false x o e = e
  over_none true x none e = refl
  over_none true x (some y) e = absurd (some-ne-none _ e)

  pub behind-else : (b : Bool) (x : X) (o : Option X) → b ≢ true → behind o (cond b (some x) none) ≡ o
  behind-else true x o ne = absurd (ne refl)
  behind-else false x none ne = refl
  behind-else false x (some y) ne = refl

  pub behind-none : (p o : Option X) → behind o p ≡ none → o ≡ none
  behind-none p none e = refl
  behind-none p (some y) e = absurd (some-ne-none _ e)

  found_none : (o : Option X) → found o ≡ false → o ≡ none
  found_none none e = refl
  found_none (some x) e = absurd (true≢false e)

module _ {K : Type 0} (eq : K → K → Bool) (test : Tests eq) where
  flip : (a b : K) → eq a b ≡ false → eq b a ≡ false
  flip a b e = go (eq b a) refl
    where
      go : (c : Bool) → eq b a ≡ c → c ≡ false
      go true t = absurd (true≢false (sym (test.same a) ∙ ap (eq a) (sym (test.equal b a t)) ∙ e))
      go false t = refl

  has-append : (k a : K) (l : List K) → has eq k l ≡ false → eq a k ≡ false → has eq k (l ++ (a ∷ [])) ≡ false
  unfolding has
  has-append k a [] h e = rw e
  has-append k a (b ∷ l) h e = rw (or_left (eq b k) (has eq k l) h) (has-append k a l (or_right (eq b k) (has eq k l) h) e)

  pub distinct_append : (l : List K) (k : K) → distinct eq l ≡ true → has eq k l ≡ false → distinct eq (l ++ (k ∷ [])) ≡ true
  unfolding distinct has
  distinct_append [] k d h = refl
  distinct_append (a ∷ l) k d h =
      let fresh = not-true (has eq a l) (and_left (not (has eq a l)) (distinct eq l) d) in
      rw (has-append a k l fresh (flip a k (or_left (eq a k) (has eq k l) h)))
      (distinct_append l k (and_right (not (has eq a l)) (distinct eq l) d) (or_right (eq a k) (has eq k l) h))

  -- an element stays in a list that goes on
  pub has_more : (k a : K) (l : List K) → has eq k l ≡ true → has eq k (l ++ (a ∷ [])) ≡ true
  unfolding has
  has_more k a [] h = absurd (false≢true h)
  has_more k a (b ∷ l) h = go (eq b k) (has_more k a l) h
    where
      go : (t : Bool) → (has eq k l ≡ true → has eq k (l ++ (a ∷ [])) ≡ true) → (t || has eq k l) ≡ true → (t || has eq k (l ++ (a ∷ []))) ≡ true
      go true ih q = refl
      go false ih q = ih q

-- what every element passes, it passes by a weaker test
module _ {X K : Type 0} (key : X → K) (eq : K → K → Bool) where
  pub find-append : (k : K) (l : List X) (x : X) → find key eq k (l ++ (x ∷ [])) ≡ behind (find key eq k l) (cond (eq (key x) k) (some x) none)
  unfolding find
  find-append k [] x = refl
  find-append k (y ∷ l) x = go (eq (key y) k) (find-append k l x)
    where
      go : (b : Bool) → find key eq k (l ++ (x ∷ [])) ≡ behind (find key eq k l) (cond (eq (key x) k) (some x) none) → cond b (some y) (find key eq k (l ++ (x ∷ []))) ≡ behind (cond b (some y) (find key eq k l)) (cond (eq (key x) k) (some x) none)
      go true ih = refl
      go false ih = ih

  pub has-find : (k : K) (l : List X) → has eq k (map key l) ≡ found (find key eq k l)
  unfolding has find
  has-find k [] = refl
  has-find k (x ∷ l) = go (eq (key x) k) (has-find k l)
    where
      go : (b : Bool) → has eq k (map key l) ≡ found (find key eq k l) → (b || has eq k (map key l)) ≡ found (cond b (some x) (find key eq k l))
      go true ih = refl
      go false ih = ih

  pub all-find : (p : X → Bool) (k : K) (l : List X) (x : X) → all p l ≡ true → find key eq k l ≡ some x → p x ≡ true
  unfolding all find
  all-find p k [] x h e = absurd (none-ne-some _ e)
  all-find p k (y ∷ l) x h e = go (eq (key y) k) (λ q. all-find p k l x (and_right (p y) (all p l) h) q) e
    where
      go : (b : Bool) → (find key eq k l ≡ some x → p x ≡ true) → cond b (some y) (find key eq k l) ≡ some x → p x ≡ true
      go true ih q = ap p (sym (some-injective _ _ q)) ∙ and_left (p y) (all p l) h
      go false ih q = ih q

  pub all-put : (p : X → Bool) (k : K) (x : X) (l : List X) → all p l ≡ true → p x ≡ true → all p (put key eq k x l) ≡ true
  unfolding all put
  all-put p k x [] h e = refl
  all-put p k x (y ∷ l) h e = go (eq (key y) k) (all-put p k x l (and_right (p y) (all p l) h) e)
    where
      go : (b : Bool) → all p (put key eq k x l) ≡ true → all p (cond b (x ∷ l) (y ∷ put key eq k x l)) ≡ true
      go true ih = rw e (and_right (p y) (all p l) h)
      go false ih = rw (and_left (p y) (all p l) h) ih

  -- a replacement keeps what it replaces alike
  pub map-put : {B : Type 0} (f : X → B) (k : K) (x y : X) (l : List X) → find key eq k l ≡ some y → f x ≡ f y → map f (put key eq k x l) ≡ map f l
  unfolding find put
  map-put f k x y [] e h = refl
  map-put {B} f k x y (z ∷ l) e h = go (eq (key z) k) (λ q. map-put f k x y l q h) e
    where
      go : (b : Bool) → (find key eq k l ≡ some y → map f (put key eq k x l) ≡ map f l) → cond b (some z) (find key eq k l) ≡ some y → map f (cond b (x ∷ l) (z ∷ put key eq k x l)) ≡ f z ∷ map f l
      go true ih q = ap (λ (w : B). w ∷ map f l) (h ∙ ap f (sym (some-injective _ _ q)))
      go false ih q = ap (λ (ws : List B). f z ∷ ws) (ih q)

  module _ (test : Tests eq) where
    -- what is found has the key
    pub find-key : (k : K) (l : List X) (x : X) → find key eq k l ≡ some x → key x ≡ k
    unfolding find
    find-key k [] x e = absurd (none-ne-some _ e)
    find-key k (y ∷ l) x e = go (eq (key y) k) refl (λ q. find-key k l x q) e
      where
        go : (b : Bool) → eq (key y) k ≡ b → (find key eq k l ≡ some x → key x ≡ k) → cond b (some y) (find key eq k l) ≡ some x → key x ≡ k
        go true t ih q = ap key (sym (some-injective _ _ q)) ∙ test.equal (key y) k t
        go false t ih q = ih q

    pub find-put : (k r : K) (x : X) (l : List X) → key x ≡ r → find key eq k (put key eq r x l) ≡ over (eq r k) x (find key eq k l)
    unfolding find put
    find-put k r x [] e = go (eq r k)
      where
        go : (b : Bool) → none ≡ over b x none
        go true = refl
        go false = refl
    find-put k r x (y ∷ l) e = go (eq (key y) r) refl (find-put k r x l e)
      where
        hit : (b : Bool) → cond b (some x) (find key eq k l) ≡ over b x (cond b (some y) (find key eq k l))
        hit true = refl
        hit false = refl

        apart : eq (key y) r ≡ false → eq (key y) k ≡ true → (c : Bool) → eq r k ≡ c → some y ≡ over c x (some y)
        apart t q false w = refl
        apart t q true w =
            absurd (false≢true (sym t ∙ ap (eq (key y)) (test.equal r k w ∙ sym (test.equal (key y) k q)) ∙ test.same (key y)))

        past : eq (key y) r ≡ false → (b : Bool) → eq (key y) k ≡ b → find key eq k (put key eq r x l) ≡ over (eq r k) x (find key eq k l) → cond b (some y) (find key eq k (put key eq r x l)) ≡ over (eq r k) x (cond b (some y) (find key eq k l))
        past t true q ih = apart t q (eq r k) refl
        past t false q ih = ih

        go : (b : Bool) → eq (key y) r ≡ b → find key eq k (put key eq r x l) ≡ over (eq r k) x (find key eq k l) → find key eq k (cond b (x ∷ l) (y ∷ put key eq r x l)) ≡ over (eq r k) x (cond (eq (key y) k) (some y) (find key eq k l))
        go true t ih = rw (e, test.equal (key y) r t) (hit (eq r k))
        go false t ih = past t (eq (key y) k) refl ih

    -- a table with different keys is known by its keys and by what is found under each
    pub table_same : (xs ys : List X) → map key xs ≡ map key ys → distinct eq (map key xs) ≡ true → ((k : K) → find key eq k xs ≡ find key eq k ys) → xs ≡ ys
    unfolding find distinct
    table_same [] [] e d h = refl
    table_same [] (y ∷ ys) e d h = absurd (omega (arith, ap length e))
    table_same (x ∷ xs) [] e d h = absurd (omega (arith, ap length e))
    table_same (x ∷ xs) (y ∷ ys) e d h =
        λ i. head i ∷ table_same xs ys tails (and_right (not (has eq (key x) (map key xs))) (distinct eq (map key xs)) d) (λ k. tail k (eq (key x) k) refl) i
      where
        heads : key x ≡ key y
        heads = cc

        tails : map key xs ≡ map key ys
        tails = cc

        first : (a : X) (l : List X) → find key eq (key a) (a ∷ l) ≡ some a
        first a l = rw (test.same (key a))

        head : x ≡ y
        head = some-injective _ _ (sym (first x xs) ∙ h (key x) ∙ ap (λ (k : K). find key eq k (y ∷ ys)) heads ∙ first y ys)

        fresh : has eq (key x) (map key xs) ≡ false
        fresh = not-true (has eq (key x) (map key xs)) (and_left (not (has eq (key x) (map key xs))) (distinct eq (map key xs)) d)

        tail : (k : K) (b : Bool) → eq (key x) k ≡ b → find key eq k xs ≡ find key eq k ys
        tail k true t =
            let q : has eq k (map key xs) ≡ false = rw (test.equal (key x) k t) at fresh in
            found_none _ (sym (has-find k xs) ∙ q) ∙ sym (found_none _ (sym (has-find k ys) ∙ rw (← tails) q))
        tail k false t =
            let t' : eq (key y) k ≡ false = rw heads at t in
            let l : find key eq k (x ∷ xs) ≡ find key eq k xs = rw t in
            let r : find key eq k (y ∷ ys) ≡ find key eq k ys = rw t' in
            sym l ∙ h k ∙ r

module _ {X Y K : Type 0} (f : X → Y) (key : Y → K) (eq : K → K → Bool) where
  pub find-map : (k : K) (l : List X) → Option.map f (find (λ x. key (f x)) eq k l) ≡ find key eq k (map f l)
  unfolding find
  find-map k [] = refl
  find-map k (x ∷ l) = go (eq (key (f x)) k) (find-map k l)
    where
      go : (b : Bool) → Option.map f (find (λ x. key (f x)) eq k l) ≡ find key eq k (map f l) → Option.map f (cond b (some x) (find (λ x. key (f x)) eq k l)) ≡ cond b (some (f x)) (find key eq k (map f l))
      go true ih = refl
      go false ih = ih
