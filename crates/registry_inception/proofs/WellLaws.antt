-- The states that registry folds leave are within the limits.
--     well-by-view      counts within their limits, and a view with the letters and bytes of its places
--     good-incepted     an inception's state has these letters and bytes
use Prim.Native.Nat.{ℕ, ◌≤◌}
use mathlib.Core.Path.{◌≡◌, refl}
use mathlib.Core.List.{List, [], ◌∷◌}
use mathlib.Core.Bool.{true, ◌&&◌}
use borrow.Author.Tests.{le-leb}
use lib.Dec.{leb}
use lib.ListN.{length}
use Rattle.laws.proofs.Tests.{and_left, and_right}
use Rattle.cesr.specs.Primitives.{is_basic, is_said}
use Rattle.cesr.specs.declared.Matter.{Matter}
use Rattle.cesr.specs.declared.Said.{Said}
use Rattle.cesr.specs.declared.BasicPrefix.{BasicPrefix}
use Rattle.events_tel.specs.TelEvents.Event.{vcp}
use Rattle.codec_cursor.specs.Readers.{is_identifier}
use Rattle.codec.specs.Events.{is_config}
use Rattle.codec.specs.Layout.{all, is_matter, good_said, good_prefix, good_identifier, good_toad, good_configs, good_prefixes, good_event}
use Rattle.registry_authentication.specs.States.{Registry, view_registry, is_backer, well_registry}
use Rattle.registry_authentication.specs.declared.RegistryState.{RegistryState}
use Rattle.registry_inception.specs.InceptionFolds.{incepted}

-- the letters and config bytes of a registry
pub record Lettered (g : Registry) : Type 0 where
  pub id : is_said g.id.0 ≡ true
  pub issuer : is_identifier g.issuer ≡ true
  pub latest : is_said g.latest.0 ≡ true
  pub configs : all is_config g.configs ≡ true
  pub backers : all is_backer g.backers ≡ true

pub well-by-view : (x : RegistryState) → x.configs.count ≤ 8 → x.backers.count ≤ 16 → Lettered (view_registry x) → well_registry x ≡ true
unfolding well_registry
well-by-view x h k l =
    rw (le-leb x.configs.count 8 h, le-leb x.backers.count 16 k, l.id, l.issuer, l.latest, l.configs, l.backers)

pub good-letter : (d : Said) → good_said d ≡ true → is_said d.0 ≡ true
unfolding good_said
good-letter d h = and_left (is_said d.0) (is_matter d.0) h

good-name : (m : Matter) → good_identifier m ≡ true → is_identifier m ≡ true
unfolding good_identifier
good-name m h = and_left (is_identifier m) (is_matter m) h

all-backers : (l : List BasicPrefix) → all good_prefix l ≡ true → all is_backer l ≡ true
unfolding all good_prefix
all-backers [] h = refl
all-backers (p ∷ l) h =
    let g = is_basic p.0 && is_matter p.0 in
    rw (and_left (is_basic p.0) (is_matter p.0) (and_left g (all good_prefix l) h), all-backers l (and_right g (all good_prefix l) h))

pub good-backers : (l : List BasicPrefix) → good_prefixes l ≡ true → all is_backer l ≡ true
unfolding good_prefixes
good-backers l h = all-backers l (and_right (leb (length l) 16) (all good_prefix l) h)

good-bytes : (l : List ℕ) → good_configs l ≡ true → all is_config l ≡ true
unfolding good_configs
good-bytes l h = and_right (leb (length l) 8) (all is_config l) h

pub good-incepted : (said : Said) (issuer : Matter) (toad : ℕ) (configs : List ℕ) (backers : List BasicPrefix) → good_event (vcp said issuer toad configs backers) ≡ true → Lettered (incepted (vcp said issuer toad configs backers))
good-incepted said issuer toad configs backers g =
    let lists = good_configs configs && good_prefixes backers in
    let g1 = and_right (good_said said) (good_identifier issuer && (good_toad toad && lists)) g in
    let g2 = and_right (good_toad toad) lists (and_right (good_identifier issuer) (good_toad toad && lists) g1) in
    let letter = good-letter said (and_left (good_said said) (good_identifier issuer && (good_toad toad && lists)) g) in
    record
    { id = letter; issuer = good-name issuer (and_left (good_identifier issuer) (good_toad toad && lists) g1); latest = letter; configs = good-bytes configs (and_left (good_configs configs) (good_prefixes backers) g2); backers = good-backers backers (and_right (good_configs configs) (good_prefixes backers) g2) }
