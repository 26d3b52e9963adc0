-- The states that rotations leave are within the limits.
--     well-view         what a state within the limits says of its view
--     good-rotated      a rotation's state has the letters and bytes of its places where the state before it had
use Prim.Native.Nat.{ℕ}
use mathlib.Core.Path.{◌≡◌, refl}
use mathlib.Core.List.{List, [], ◌∷◌, ◌++◌}
use mathlib.Core.Bool.{Bool, true, false, cond, ◌&&◌}
use lib.Dec.{leb}
use Rattle.laws.proofs.Tests.{and_left, and_right}
use Rattle.cesr.specs.Primitives.{is_said}
use Rattle.cesr.specs.declared.Said.{Said}
use Rattle.cesr.specs.declared.BasicPrefix.{BasicPrefix}
use Rattle.cesr_sn.specs.declared.Sn.{Sn}
use Rattle.events_tel.specs.Configs.{view_configs}
use Rattle.events.specs.Members.{view, has}
use Rattle.events_tel.specs.TelEvents.Event.{vrt}
use Rattle.codec_cursor.specs.Readers.{is_identifier}
use Rattle.codec.specs.Events.{is_config}
use Rattle.codec.specs.Layout.{all, good_said, good_toad, good_sn, good_prefixes, good_event}
use Rattle.registry_state.specs.States.{Registry, view_registry, is_backer, well_registry}
use Rattle.registry_state.specs.declared.RegistryState.{RegistryState}
use Rattle.registry_members.specs.Updated.{survivors, updated_members}
use Rattle.registry.specs.RegistryFolds.{rotated}
use Rattle.registry_inception.proofs.WellLaws.{Lettered, good-letter, good-backers}

pub well-view : (x : RegistryState) → well_registry x ≡ true → (leb x.configs.count 8 ≡ true) × Lettered (view_registry x)
unfolding well_registry
well-view x h =
    let lists = all is_config (view_configs x.configs) && all is_backer (view x.backers) in
    let late = is_said x.latest.0 && lists in
    let named = is_identifier x.issuer && late in
    let letters = is_said x.id.0 && named in
    let h1 = and_right (leb x.configs.count 8) (leb x.backers.count 16 && letters) h in
    let h2 = and_right (leb x.backers.count 16) letters h1 in
    let h3 = and_right (is_said x.id.0) named h2 in
    let h4 = and_right (is_identifier x.issuer) late h3 in
    let h5 = and_right (is_said x.latest.0) lists h4 in (
      and_left (leb x.configs.count 8) (leb x.backers.count 16 && letters) h,
      record
          { id = and_left (is_said x.id.0) named h2; issuer = and_left (is_identifier x.issuer) late h3; latest = and_left (is_said x.latest.0) lists h4; configs = and_left (all is_config (view_configs x.configs)) (all is_backer (view x.backers)) h5; backers = and_right (all is_config (view_configs x.configs)) (all is_backer (view x.backers)) h5 },
    )

all-joined : (l k : List BasicPrefix) → all is_backer l ≡ true → all is_backer k ≡ true → all is_backer (l ++ k) ≡ true
unfolding all
all-joined [] k g h = h
all-joined (p ∷ l) k g h =
    rw (and_left (is_backer p) (all is_backer l) g, all-joined l k (and_right (is_backer p) (all is_backer l) g) h)

all-survivors : (cuts l : List BasicPrefix) → all is_backer l ≡ true → all is_backer (survivors cuts l) ≡ true
unfolding survivors all
all-survivors cuts [] g = refl
all-survivors cuts (p ∷ l) g = go (has p cuts) (and_left (is_backer p) (all is_backer l) g) (all-survivors cuts l (and_right (is_backer p) (all is_backer l) g))
  where
    go : (t : Bool) → is_backer p ≡ true → all is_backer (survivors cuts l) ≡ true → all is_backer (cond t (survivors cuts l) (p ∷ survivors cuts l)) ≡ true
    go true e h = h
    go false e h = rw (e, h)

pub good-rotated : (g : Registry) (said registry prior : Said) (sn : Sn) (toad : ℕ) (cuts additions : List BasicPrefix) → Lettered g → good_event (vrt said registry prior sn toad cuts additions) ≡ true → Lettered (rotated g (vrt said registry prior sn toad cuts additions))
unfolding updated_members
good-rotated g said registry prior sn toad cuts additions l e =
    let lists = good_prefixes cuts && good_prefixes additions in
    let numbers = good_sn sn && (good_toad toad && lists) in
    let saids = good_said registry && (good_said prior && numbers) in
    let e1 = and_right (good_said prior) numbers (and_right (good_said registry) (good_said prior && numbers) (and_right (good_said said) saids e)) in
    let e2 = and_right (good_toad toad) lists (and_right (good_sn sn) (good_toad toad && lists) e1) in
    record
    { id = l.id; issuer = l.issuer; latest = good-letter said (and_left (good_said said) saids e); configs = l.configs; backers = all-joined (survivors cuts g.backers) additions (all-survivors cuts g.backers l.backers) (good-backers additions (and_right (good_prefixes cuts) (good_prefixes additions) e2)) }
