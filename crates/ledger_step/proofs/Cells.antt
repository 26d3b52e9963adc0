-- Calls that each read and write one cell of a state. Two orders of the same calls that keep the order within each cell's calls give every
-- call the same answer and leave the same cells.
--     Local                     what makes calls so
--     final-fine                what every call keeps, a run keeps
--     same-answers, same-cells  the law
use Prim.Native.Nat.{ℕ, zero, suc, ◌+◌, ◌≤◌, ◌<◌}
use mathlib.Core.Path.{◌≡◌, refl, sym, ap, ◌∙◌}
use mathlib.Core.Logic.{◌≢◌, by_cases}
use mathlib.Core.HLevel.{Discrete}
use mathlib.Core.Option.{Option, some, some-injective, discrete}
use mathlib.Core.List.{List, [], ◌∷◌}
use native.Mathlib.Nat.{not-suc-le-zero, le_refl}
use native.Mathlib.Omega.{arith}
use native.Mathlib.Decide.{ℕ_discrete, dec_lt}
use lib.ListN.{length, get_elem?}
use Rattle.ledger_step.specs.Orders.{Each, Matched, KeepsOrder, final, answers}
use Rattle.ledger_step.proofs.Places.{at_in, in-at, from_at, each-other}
use Rattle.ledger_step.proofs.Runs.{before, before-suc, answers_at, final-before}

-- A call reads and writes the cell of its class, or, without a class, no cell. `Fine` is what every state of a run keeps, `Allowed` what
-- every call is.
pub record Local {S A R K : Type 0} {C : K → Type 0} (next : S → A → S) (answer : S → A → R) (class : A → Option K) (cell : S → (k : K) → C k) (Fine : S → Type 0) (Allowed : A → Type 0) : Type 0 where
  pub keeps : (s : S) (a : A) → Fine s → Allowed a → Fine (next s a)
  pub other : (s : S) (a : A) (k : K) → Fine s → Allowed a → class a ≢ some k → cell (next s a) k ≡ cell s k
  pub own : (s t : S) (a : A) (k : K) → Fine s → Fine t → Allowed a → class a ≡ some k → cell s k ≡ cell t k → cell (next s a) k ≡ cell (next t a) k
  pub reply : (s t : S) (a : A) → Fine s → Fine t → Allowed a → ((k : K) → class a ≡ some k → cell s k ≡ cell t k) → answer s a ≡ answer t a

module _ {S A R K : Type 0} {C : K → Type 0} (key? : Discrete K) (next : S → A → S) (answer : S → A → R) (class : A → Option K) (cell : S → (k : K) → C k) (Fine : S → Type 0) (Allowed : A → Type 0) (law : Local next answer class cell Fine Allowed) where
  before-fine : (s : S) (l : List A) (i : ℕ) → Fine s → Each Allowed l → Fine (before next s l i)
  unfolding before
  before-fine s l zero f al = f
  before-fine s [] (suc i) f al = f
  before-fine s (x ∷ l) (suc i) f al = before-fine (next s x) l i (law.keeps s x f (al zero x refl)) (λ j. al (suc j))

  pub final-fine : (s : S) (l : List A) → Fine s → Each Allowed l → Fine (final next s l)
  final-fine s l f al = rw (final-before next s l) (before-fine s l (length l) f al)

  module _ (s : S) (xs ys : List A) (m : Matched xs ys) (o : KeepsOrder class m) (f : Fine s) (ax : Each Allowed xs) where
    at_from : (j : ℕ) (y : A) → get_elem? ys j ≡ some y → get_elem? xs (m.from j) ≡ some y
    at_from = from_at m

    ay : Each Allowed ys
    ay = each-other m Allowed ax

    abbrev at_x : ℕ → S
    at_x i = before next s xs i

    abbrev at_y : ℕ → S
    at_y j = before next s ys j

    -- the calls of class k before place i of xs are those before place j of ys
    abbrev Cut : K → ℕ → ℕ → Type 0
    Cut k i j = (p : ℕ) (x : A) → get_elem? xs p ≡ some x → class x ≡ some k → (p < i → m.to p < j) × (m.to p < j → p < i)

    -- the cell of class k is the same at both places
    abbrev Agree : K → ℕ → ℕ → Type 0
    Agree k i j = cell (at_x i) k ≡ cell (at_y j) k

    skip_x : (k : K) (i : ℕ) (x : A) → get_elem? xs i ≡ some x → class x ≢ some k → cell (at_x (suc i)) k ≡ cell (at_x i) k
    skip_x k i x e q = rw (before-suc next s xs i x e) (law.other (at_x i) x k (before-fine s xs i f ax) (ax i x e) q)

    skip_y : (k : K) (j : ℕ) (y : A) → get_elem? ys j ≡ some y → class y ≢ some k → cell (at_y (suc j)) k ≡ cell (at_y j) k
    skip_y k j y e q = rw (before-suc next s ys j y e) (law.other (at_y j) y k (before-fine s ys j f ay) (ay j y e) q)

    both : (k : K) (i j : ℕ) (x : A) → get_elem? xs i ≡ some x → get_elem? ys j ≡ some x → class x ≡ some k → Agree k i j → Agree k (suc i) (suc j)
    both k i j x e e' q h =
        rw (before-suc next s xs i x e, before-suc next s ys j x e')
        (law.own (at_x i) (at_y j) x k (before-fine s xs i f ax) (before-fine s ys j f ay) (ax i x e) q h)

    -- the last calls before both cuts, if both are of class k, are one call
    meet : (k : K) (i j : ℕ) (x y : A) → Cut k (suc i) (suc j) → get_elem? xs i ≡ some x → get_elem? ys j ≡ some y → class x ≡ some k → class y ≡ some k → m.from j ≡ i
    meet k i j x y c e e' q q' = by_cases (ℕ_discrete (m.from j) i) (λ h. h) (λ ne. absurd (apart ne))
      where
        back : m.to (m.from j) ≡ j
        back = m.to-from j (at_in ys j y e')

        before-i : m.from j < suc i
        before-i = (c (m.from j) y (at_from j y e') q').1 (omega (arith, back))

        before-j : m.to i < suc j
        before-j = (c i x e q).0 (omega arith)

        apart : m.from j ≢ i → ⊥
        apart ne = omega (arith, back, before-j, o k (m.from j) i y x (at_from j y e') e q' q (omega (arith, before-i)))

    -- a cut moves over a call of another class
    down_x : (k : K) (i j : ℕ) (x : A) → get_elem? xs i ≡ some x → class x ≢ some k → Cut k (suc i) j → Cut k i j
    down_x k i j x e q c p z ez qz =
        (λ h. (c p z ez qz).0 (omega arith), λ h. by_cases (ℕ_discrete p i) (λ same. absurd (q (other same))) (λ ne. omega (arith, (c p z ez qz).1 h)))
      where
        other : p ≡ i → class x ≡ some k
        other same = let g : get_elem? xs i ≡ some z = rw same at ez in ap class (some-injective _ _ (sym e ∙ g)) ∙ qz

    down_y : (k : K) (i j : ℕ) (y : A) → get_elem? ys j ≡ some y → class y ≢ some k → Cut k i (suc j) → Cut k i j
    down_y k i j y e q c p z ez qz =
        (λ h. by_cases (ℕ_discrete (m.to p) j) (λ same. absurd (q (other same))) (λ ne. omega (arith, (c p z ez qz).0 h)), λ h. (c p z ez qz).1 (omega arith))
      where
        other : m.to p ≡ j → class y ≡ some k
        other same =
            let g : get_elem? ys j ≡ some z = rw same at (m.same p (at_in xs p z ez) ∙ ez) in ap class (some-injective _ _ (sym e ∙ g)) ∙ qz

    -- at the two places of one call of class k the cuts match
    here : (k : K) (i : ℕ) (x : A) → get_elem? xs i ≡ some x → class x ≡ some k → Cut k i (m.to i)
    here k i x e q p z ez qz = (λ h. o k p i z x ez e qz q h, λ h. by_cases (dec_lt p i) (λ l. l) (λ nl. absurd (late nl h (ℕ_discrete p i))))
      where
        late : ¬ (p < i) → m.to p < m.to i → Dec (p ≡ i) → ⊥
        late nl h (yes same) = omega (arith, ap m.to same)
        late nl h (no ne) = omega (arith, o k i p x z e ez q qz (omega arith))

    cut-zero : (k : K) (i j : ℕ) → i + j ≤ 0 → Agree k i j
    unfolding before
    cut-zero k zero zero h = refl
    cut-zero k zero (suc j) h = absurd (omega arith)
    cut-zero k (suc i) j h = absurd (omega arith)

    module _ (n : ℕ) (k : K) (ih : (i j : ℕ) → i + j ≤ n → i ≤ length xs → j ≤ length ys → Cut k i j → Agree k i j) where
      -- the last calls before the cuts, taken off: one of another class from its side, one of class k from both
      last_x : (i : ℕ) (x : A) (j : ℕ) → suc i + j ≤ suc n → suc i ≤ length xs → j ≤ length ys → get_elem? xs i ≡ some x → class x ≢ some k → Cut k (suc i) j → Agree k (suc i) j
      last_x i x j h hx hy e q c = skip_x k i x e q ∙ ih i j (omega arith) (omega arith) hy (down_x k i j x e q c)

      last_y : (j : ℕ) (y : A) (i : ℕ) → i + suc j ≤ suc n → i ≤ length xs → suc j ≤ length ys → get_elem? ys j ≡ some y → class y ≢ some k → Cut k i (suc j) → Agree k i (suc j)
      last_y j y i h hx hy e q c = ih i j (omega arith) hx (omega arith) (down_y k i j y e q c) ∙ sym (skip_y k j y e q)

      last_xy : (i j : ℕ) (x y : A) → suc i + suc j ≤ suc n → suc i ≤ length xs → suc j ≤ length ys → get_elem? xs i ≡ some x → get_elem? ys j ≡ some y → class x ≡ some k → class y ≡ some k → Cut k (suc i) (suc j) → Agree k (suc i) (suc j)
      last_xy i j x y h hx hy e e' q q' c =
          let b : m.from j ≡ i = meet k i j x y c e e' q q' in
          let t : m.to i ≡ j = ap m.to (sym b) ∙ m.to-from j hy in
          both k i j x e (rw (← t) (m.same i hx ∙ e)) q (ih i j (omega arith) (omega arith) (omega arith) (rw (← t) (here k i x e q)))

      class? : (x : A) → Dec (class x ≡ some k)
      class? x = discrete key? (class x) (some k)

      cut-suc : (i j : ℕ) → i + j ≤ suc n → i ≤ length xs → j ≤ length ys → Cut k i j → Agree k i j
      cut-suc zero zero h hx hy c = cut-zero k zero zero (omega arith)
      cut-suc zero (suc j) h hx hy c =
          let (y, e) = in-at ys j hy in
          by_cases (class? y)
          (λ q. absurd (not-suc-le-zero ((c (m.from j) y (at_from j y e) q).1 (omega (arith, m.to-from j hy)))))
          (λ q. last_y j y zero h hx hy e q c)
      cut-suc (suc i) zero h hx hy c =
          let (x, e) = in-at xs i hx in
          by_cases (class? x) (λ q. absurd (not-suc-le-zero ((c i x e q).0 (omega arith)))) (λ q. last_x i x zero h hx hy e q c)
      cut-suc (suc i) (suc j) h hx hy c =
          let (x, e) = in-at xs i hx in
          let (y, e') = in-at ys j hy in
          by_cases (class? x)
          (λ q. by_cases (class? y) (λ q'. last_xy i j x y h hx hy e e' q q' c) (λ q'. last_y j y (suc i) h hx hy e' q' c))
          (λ q. last_x i x (suc j) h hx hy e q c)

    cut : (n : ℕ) (k : K) (i j : ℕ) → i + j ≤ n → i ≤ length xs → j ≤ length ys → Cut k i j → Agree k i j
    cut zero k i j h hx hy c = cut-zero k i j h
    cut (suc n) k i j h hx hy c = cut-suc n k (λ i' j'. cut n k i' j') i j h hx hy c

    -- Every call is answered alike at its two places.
    pub same-answers : (i : ℕ) → i < length xs → get_elem? (answers next answer s xs) i ≡ get_elem? (answers next answer s ys) (m.to i)
    same-answers i hi =
        let (x, e) = in-at xs i hi in
        let e' : get_elem? ys (m.to i) ≡ some x = m.same i hi ∙ e in
        let agree : (k : K) → class x ≡ some k → Agree k i (m.to i) =
        λ k q. cut (i + m.to i) k i (m.to i) (le_refl _) (omega arith) (omega (arith, m.to_in i hi)) (here k i x e q) in
        answers_at next answer s xs i x e
        ∙ ap some (law.reply (at_x i) (at_y (m.to i)) x (before-fine s xs i f ax) (before-fine s ys (m.to i) f ay) (ax i x e) agree)
        ∙ sym (answers_at next answer s ys (m.to i) x e')

    -- The runs leave the same in every cell.
    pub same-cells : (k : K) → cell (final next s xs) k ≡ cell (final next s ys) k
    same-cells k =
        rw (final-before next s xs, final-before next s ys)
        (cut (length xs + length ys) k (length xs) (length ys) (le_refl _) (le_refl _) (le_refl _)
        (λ p x e q. (λ h. m.to_in p h, λ h. at_in xs p x e)))
