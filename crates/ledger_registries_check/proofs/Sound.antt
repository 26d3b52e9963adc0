-- How a loop finds that registries are sound, one registry at a time: the laws of `TableChecks`, by the registries that are lent.
--     Kept                                what holds where the loop has come to registry i: those before it are sound
--     at-start, at-good, at-bad, at-end   it holds at the first registry, a turn keeps it, and what the loop answers is what the rules say
--     unsound, repeated, passed           what a turn learns of its registry
--     wrong_slots, too_many               what it answers where the sizes are wrong
use Prim.Native.Nat.{ℕ, ◌+◌, ◌<◌, ◌≤◌}
use mathlib.Core.Path.{◌≡◌, sym, ap, ◌∙◌}
use mathlib.Core.Bool.{Bool, true, false, ◌&&◌, and-false}
use mathlib.Core.List.{List, map}
use native.Mathlib.Omega.{arith}
use native.Mathlib.Numerals.{add-one}
use borrow.Author.Tests.{le-leb, lt-leb}
use lib.Dec.{leb}
use lib.ListN.{length, length-map, get_or, take}
use Rattle.cesr.specs.Primitives.{eq_said}
use Rattle.registry_state.specs.States.{view_registry, well_registry}
use Rattle.registry_state.specs.declared.RegistryState.{RegistryState}
use Rattle.ledger_registry_rules.specs.ReadingRules.{sound_registry}
use Rattle.ledger_registries.specs.Tables.{place}
use Rattle.ledger_registries.specs.Ledgers.{Held, held_of, id_of, keeps_layout, keeps_rules, holds, registry_rules}
use Rattle.ledger_registries.proofs.Rules.{said-test}
use Rattle.ledger_registries.proofs.TableChecks as C
use Rattle.ledger_registries.specs.Registries.{no_held, blank, find_registry}
use Rattle.ledger_registries.proofs.RegistryViews.{take-held, read-there}

module _ (gs : List RegistryState) where
  abbrev held : List Held
  held = map held_of gs

  -- what the rules say
  abbrev answer : ℕ → Bool
  answer n = holds (registry_rules (length gs) n (map held_of (take n gs)))

  answered : (n : ℕ) → holds (registry_rules (length held) n (take n held)) ≡ answer n
  answered n = rw (length-map gs held_of, take-held n gs)

  -- what is asked of registry i after those before it
  abbrev pub passes_at : ℕ → Bool
  passes_at i =
      (well_registry (get_or gs i blank) && sound_registry (view_registry (get_or gs i blank))) && leb i (find_registry gs i (get_or gs i blank).id)

  asked : (i : ℕ) → i < length gs → C.passes_at id_of eq_said no_held keeps_layout keeps_rules 16 said-test held i ≡ passes_at i
  unfolding find_registry
  asked i h =
      rw (take-held i gs) (ap (λ (g : Held). (keeps_layout g && keeps_rules g) && leb i (place id_of eq_said no_held (id_of g) (map held_of (take i gs)))) (sym (read-there gs i h)))

  pub unsound : (i : ℕ) → (well_registry (get_or gs i blank) && sound_registry (view_registry (get_or gs i blank))) ≡ false → passes_at i ≡ false
  unsound i e = rw e

  pub repeated : (i : ℕ) → find_registry gs i (get_or gs i blank).id < i → passes_at i ≡ false
  repeated i h = rw (lt-leb i _ h) (and-false (well_registry (get_or gs i blank) && sound_registry (view_registry (get_or gs i blank))))

  pub passed : (i : ℕ) → (well_registry (get_or gs i blank) && sound_registry (view_registry (get_or gs i blank))) ≡ true → i ≤ find_registry gs i (get_or gs i blank).id → passes_at i ≡ true
  passed i e h = rw e (le-leb i _ h)

  abbrev pub Kept : ℕ → Type 0
  Kept i = C.Kept id_of eq_said no_held keeps_layout keeps_rules 16 said-test held i

  pub at-start : Kept 0
  at-start = C.at-start id_of eq_said no_held keeps_layout keeps_rules 16 said-test held

  pub at-good : (i : ℕ) → i < length gs → Kept i → passes_at i ≡ true → Kept (i + 1)
  at-good i h f p =
      rw add-one (C.at-good id_of eq_said no_held keeps_layout keeps_rules 16 said-test held i (omega (arith, length-map gs held_of)) f (asked i h ∙ p))

  slots : length held ≡ length gs
  slots = length-map gs held_of

  pub wrong_slots : (n : ℕ) → (length gs ≡ 16 → ⊥) → false ≡ answer n
  wrong_slots n h = C.wrong_slots id_of eq_said no_held keeps_layout keeps_rules 16 said-test held n (λ e. h (sym slots ∙ e)) ∙ answered n

  pub too_many : (n : ℕ) → 16 < n → false ≡ answer n
  too_many n h = C.too_many id_of eq_said no_held keeps_layout keeps_rules 16 said-test held n h ∙ answered n

  pub at-end : (n : ℕ) → length gs ≡ 16 → n ≤ 16 → Kept n → true ≡ answer n
  at-end n e u f = C.at-end id_of eq_said no_held keeps_layout keeps_rules 16 said-test held n (slots ∙ e) u f ∙ answered n

  pub at-bad : (n i : ℕ) → length gs ≡ 16 → n ≤ 16 → i < n → passes_at i ≡ false → false ≡ answer n
  at-bad n i e u h p =
      C.at-bad id_of eq_said no_held keeps_layout keeps_rules 16 said-test held n i (slots ∙ e) u h (asked i (omega (arith, h, e, u)) ∙ p) ∙ answered n
