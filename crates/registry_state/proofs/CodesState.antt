-- The reader and the layout agree, for the state of a registry.
--     codes-registry     what is read is exactly what the layout writes, within the limits
--     registry-back      a state that was written is read
--     registry-again     a state that was read writes the same bytes
--     registry-good      a state that is handed in and well-formed is within the limits of the layout
--     registry-read      a state that was read is well-formed, where its counts are within the limits
use Prim.Native.Nat.{ℕ, ◌+◌, ◌≤◌}
use mathlib.Core.Path.{◌≡◌, refl, sym, ap, ◌∙◌}
use mathlib.Core.List.{List, [], ◌∷◌}
use mathlib.Core.Bool.{Bool, true, ◌&&◌}
use native.Mathlib.Omega.{arith}
use borrow.Author.Tests.{le-leb, leb-true}
use lib.Dec.{leb}
use lib.ListN.{length, take, length-take}
use Rattle.laws.specs.Number.{Bytes}
use Rattle.laws.specs.Room.{put}
use Rattle.laws.proofs.Tests.{and_left, and_right}
use Rattle.cesr.specs.Primitives.{is_basic, is_said}
use Rattle.codec.specs.Configs.{view_configs}
use Rattle.events.specs.Members.{view}
use Rattle.codec.specs.declared.Cursor.{Cursor}
use Rattle.codec.specs.Readers.{placed, is_identifier}
use Rattle.codec.specs.declared.Read.{Read}
use Rattle.codec.specs.Events.{is_config}
use Rattle.codec.specs.Layout.{all, is_matter, good_said, good_identifier, good_sn, good_toad, good_configs, good_prefix, good_prefixes}
use Rattle.registry_bytes.proofs.CodesRound.{codes-back, codes-again}
use Rattle.cesr_sn.specs.declared.Sn.{Sn}
use Rattle.cesr.specs.declared.Matter.{Matter}
use Rattle.cesr.specs.declared.Said.{Said}
use Rattle.cesr.specs.declared.BasicPrefix.{BasicPrefix}
use Rattle.registry_bytes.proofs.Codes.{Codes, and-true, codes-map, codes-both, codes-quad, codes-sn, codes-said, codes-identifier}
use Rattle.registry_bytes.proofs.CodesSeal.{codes-configs, codes-prefixes}
use Rattle.registry_state.specs.States.{Registry, registry_bytes, good_registry, registry_of, read_registry, view_registry, is_backer, well_registry, ranged_registry}
use Rattle.registry_state.specs.declared.RegistryState.{RegistryState}
use Rattle.registry_state.proofs.StateLoops.{all_weaker}

registry_parts : Registry → Said × (Matter × (Sn × (Said × (ℕ × (List ℕ × List BasicPrefix)))))
registry_parts g = (g.id, (g.issuer, (g.sn, (g.latest, (g.toad, (g.configs, g.backers))))))

pub codes-registry : Codes read_registry registry_bytes good_registry
unfolding read_registry registry_bytes good_registry registry_parts
codes-registry =
    codes-map registry_of registry_parts good_registry (λ t h. (refl, h)) (λ g h. (refl, h))
    (codes-both codes-said (codes-both codes-identifier (codes-both codes-sn (codes-both codes-said (codes-both codes-quad (codes-both codes-configs codes-prefixes))))))

pub registry-back : (l : List ℕ) (at : ℕ) (g : Registry) → good_registry g ≡ true → at + length (registry_bytes g) ≤ length l → read_registry (put l at (registry_bytes g)) (placed at) ≡ record { value = g; next = placed (at + length (registry_bytes g)) }
registry-back = codes-back codes-registry

pub registry-again : (l : List ℕ) (at : ℕ) → Bytes l → (read_registry l (placed at)).next.ok ≡ true → put l at (registry_bytes (read_registry l (placed at)).value) ≡ l
registry-again = codes-again codes-registry

both-pass : {A : Type 0} (f g : A → Bool) (l : List A) → all f l ≡ true → all g l ≡ true → all (λ x. f x && g x) l ≡ true
unfolding all
both-pass f g [] p q = refl
both-pass f g (x ∷ l) p q =
    and-true (f x && g x) (all (λ y. f y && g y) l)
    (and-true (f x) (g x) (and_left (f x) (all f l) p) (and_left (g x) (all g l) q))
    (both-pass f g l (and_right (f x) (all f l) p) (and_right (g x) (all g l) q))

-- a list that is seen through a count is no longer than the count
short : {A : Type 0} (n k : ℕ) (l : List A) → leb n k ≡ true → leb (length (take n l)) k ≡ true
short n k l h = le-leb (length (take n l)) k (omega (arith, leb-true n k h, length-take n l))

pub registry-good : (g : RegistryState) → well_registry g ≡ true → ranged_registry g ≡ true → good_registry (view_registry g) ≡ true
unfolding well_registry ranged_registry good_registry good_said good_identifier good_configs good_prefixes good_prefix view_configs view
registry-good g w r =
    let w1 = and_right (leb g.configs.count 8) _ w in
    let w2 = and_right (leb g.backers.count 16) _ w1 in
    let w3 = and_right (is_said g.id.0) _ w2 in
    let w4 = and_right (is_identifier g.issuer) _ w3 in
    let w5 = and_right (is_said g.latest.0) _ w4 in
    let r1 = and_right (is_matter g.id.0) _ r in
    let r2 = and_right (is_matter g.issuer) _ r1 in
    let r3 = and_right (good_sn g.sn) _ r2 in
    let r4 = and_right (is_matter g.latest.0) _ r3 in
    let configs = take g.configs.count g.configs.codes in
    let backers = take g.backers.count g.backers.items in
    and-true _ _ (and-true _ _ (and_left (is_said g.id.0) _ w2) (and_left (is_matter g.id.0) _ r))
    (and-true _ _ (and-true _ _ (and_left (is_identifier g.issuer) _ w3) (and_left (is_matter g.issuer) _ r1))
    (and-true _ _ (and_left (good_sn g.sn) _ r2)
    (and-true _ _ (and-true _ _ (and_left (is_said g.latest.0) _ w4) (and_left (is_matter g.latest.0) _ r3))
    (and-true _ _ (and_left (good_toad g.toad.0) _ r4)
    (and-true _ _
    (and-true _ _ (short g.configs.count 8 g.configs.codes (and_left (leb g.configs.count 8) _ w)) (and_left (all is_config configs) _ w5))
    (and-true _ _ (short g.backers.count 16 g.backers.items (and_left (leb g.backers.count 16) _ w1))
    (both-pass (λ p. is_basic p.0) (λ p. is_matter p.0) backers (and_right (all is_config configs) _ w5) (and_right (good_toad g.toad.0) _ r4))))))))

-- a state within the limits of the layout is well-formed, where its counts are within theirs
held-well : (g : RegistryState) → good_registry (view_registry g) ≡ true → g.configs.count ≤ 8 → g.backers.count ≤ 16 → well_registry g ≡ true
unfolding good_registry well_registry good_said good_identifier good_configs good_prefixes good_prefix
held-well g h m n =
    let v = view_registry g in
    let h1 = and_right (good_said v.id) _ h in
    let h2 = and_right (good_identifier v.issuer) _ h1 in
    let h3 = and_right (good_sn v.sn) _ h2 in
    let h4 = and_right (good_said v.latest) _ h3 in
    let h5 = and_right (good_toad v.toad) _ h4 in
    let backers = and_right (leb (length v.backers) 16) _ (and_right (good_configs v.configs) _ h5) in
    and-true _ _ (le-leb g.configs.count 8 m)
    (and-true _ _ (le-leb g.backers.count 16 n)
    (and-true _ _ (and_left (is_said v.id.0) _ (and_left (good_said v.id) _ h))
    (and-true _ _ (and_left (is_identifier v.issuer) _ (and_left (good_identifier v.issuer) _ h1))
    (and-true _ _ (and_left (is_said v.latest.0) _ (and_left (good_said v.latest) _ h3))
    (and-true _ _ (and_right (leb (length v.configs) 8) _ (and_left (good_configs v.configs) _ h5))
    (all_weaker good_prefix is_backer v.backers (λ p q. and_left (is_basic p.0) (is_matter p.0) q) backers))))))

pub registry-read : (s : List ℕ) (c : Cursor) → Bytes s → (g : RegistryState) (d : Cursor) → g.configs.count ≤ 8 → g.backers.count ≤ 16 → record { value = view_registry g; next = d } ≡ read_registry s c → (record { value = view_registry g; next = d } ≡ read_registry s c) × ((d.ok ≡ true → well_registry g ≡ true) × ((g.configs.count ≤ 8) × (g.backers.count ≤ 16)))
registry-read s c b g d m n e =
    let well : d.ok ≡ true → well_registry g ≡ true =
    λ o.
    let good = (codes-registry.sound s c b (ap (λ (r : Read Registry). r.next.ok) (sym e) ∙ o)).limits in
    held-well g (ap (λ (r : Read Registry). good_registry r.value) e ∙ good) m n in
    (e, (well, (m, n)))
