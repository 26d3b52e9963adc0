-- Laws of the bytes of states.
--     length_rest, length_front, length-state     how many bytes there are
--     few-configs            there are at most 8 config bytes
--     backer-step            how a loop writes a section, an element a turn
--     part-stored            a run stored at the start of a lent part is that run stored in the whole
--     terms-stored           the threshold and the config bytes, one behind the other
--     front-stored, front-refused, state-stored, state-refused
--                            what a writer of a state leaves and answers
--     state-front            a state is what stands before its backers, then they
use Prim.Native.Nat.{ℕ, zero, suc, ◌+◌, ◌-◌, ◌*◌, ◌<◌, ◌≤◌}
use mathlib.Core.Path.{◌≡◌, refl, ap, sym, ◌∙◌}
use mathlib.Core.Bool.{true, false}
use mathlib.Core.List.{List, [], ◌∷◌, ◌++◌, append_assoc, append-nil}
use native.Mathlib.Nat.{add-suc, add-zero, le-add_right, mul-zero, mul-suc}
use native.Mathlib.Omega.{arith}
use borrow.Author.Tests.{leb-true}
use lib.Dec.{leb}
use lib.ListN.{length, length-set, get_or, take, drop, set, length-append, length-drop, take-append-drop, drop_of_length-le}
use lib.Seq.{sets, sets-eq, drop-drop, length-sets, length-take-le, take_all, take-set-le, drop-set-add}
use borrow.Rule.Slice.PartMut.{put_mid, mid_of}
use Rattle.laws.specs.Number.{digits}
use Rattle.laws.specs.Room.{room, put}
use Rattle.laws.proofs.Number.{length_digits}
use Rattle.laws.proofs.Room.{put-sets, sets-append, stored, refused}
use Rattle.laws.proofs.Views.{take_step}
use Rattle.cesr_sn.specs.declared.Sn.{Sn}
use Rattle.cesr.specs.declared.Matter.{Matter}
use Rattle.cesr.specs.declared.BasicPrefix.{BasicPrefix}
use Rattle.cesr.proofs.Matters.{length-matter}
use Rattle.events.specs.Members.{no_prefix, at}
use Rattle.codec_laws.specs.declared.Configs.{Configs}
use Rattle.codec_laws.specs.Configs.{view_configs}
use Rattle.codec_laws.proofs.ConfigLaws.{view-size}
use Rattle.codec_laws.specs.Layout.{joined, section_bytes, byte_bytes, prefix_bytes}
use Rattle.codec_laws.proofs.CodesList.{joined_snoc}
use Rattle.registry_head.specs.HeadBytes.{head_bytes}
use Rattle.registry_head.proofs.HeadWrites.{length-head}
use Rattle.registry_bytes.specs.StateBytes.{rest_bytes, front_bytes, state_bytes}

module _ {A : Type 0} (f : A → List ℕ) (k : ℕ) (each : (x : A) → length (f x) ≡ k) where
  length-joined : (l : List A) → length (joined f l) ≡ k * length l
  unfolding joined
  length-joined [] = sym (mul-zero k)
  length-joined (x ∷ l) = rw (length-append, each x, length-joined l, mul-suc k (length l)) (omega arith)

  length-section : (l : List A) → length (section_bytes f l) ≡ 1 + k * length l
  unfolding section_bytes
  length-section l = rw (length-joined l) (omega arith)

  joined_step : (l : List A) (i : ℕ) (d : A) → i < length l → joined f (take (i + 1) l) ≡ joined f (take i l) ++ f (get_or l i d)
  joined_step l i d h = rw (take_step l i d h) (joined_snoc f (take i l) (get_or l i d))

  section-step : (b : List ℕ) (l : List A) (i : ℕ) (d : A) → i < length l → sets (sets b 1 (joined f (take i l))) (1 + k * i) (f (get_or l i d)) ≡ sets b 1 (joined f (take (i + 1) l))
  section-step b l i d h =
      rw
      (joined_step l i d h, sets-append b 1 (joined f (take i l)) (f (get_or l i d)), length-joined (take i l), length-take-le i l (omega arith))

pub length-configs : (l : List ℕ) → length (section_bytes byte_bytes l) ≡ 1 + length l
length-configs l = length-section byte_bytes 1 (λ x. refl) l ∙ omega arith

pub length-backers : (l : List BasicPrefix) → length (section_bytes prefix_bytes l) ≡ 1 + 33 * length l
length-backers l = length-section prefix_bytes 33 (λ p. length-matter p.0) l

pub length_rest : (toad : ℕ) (configs : List ℕ) (backers : List BasicPrefix) → length (rest_bytes toad configs backers) ≡ 6 + length configs + 33 * length backers
unfolding rest_bytes
length_rest toad configs backers = rw (length-append, length-append, length_digits, length-configs, length-backers) (omega arith)

pub length-state : (a b : Matter) (n : Sn) (d : Matter) (toad : ℕ) (configs : List ℕ) (backers : List BasicPrefix) → length (state_bytes a b n d toad configs backers) ≡ 121 + length configs + 33 * length backers
unfolding state_bytes
length-state a b n d toad configs backers = rw (length-append, length-head, length_rest) (omega arith)

pub few-configs : (c : Configs) → length c.codes ≡ 8 → length (view_configs c) ≤ 8
few-configs c h = omega (arith, view-size c h)

-- a backer more
pub backer-step : (b : List ℕ) (l : List BasicPrefix) (i : ℕ) → i < length l → 1 + 33 * length l ≤ length b → put (sets b 1 (joined prefix_bytes (take i l))) (1 + 33 * i) (prefix_bytes (at l i)) ≡ sets b 1 (joined prefix_bytes (take (i + 1) l))
backer-step b l i h k =
    put-sets (sets b 1 (joined prefix_bytes (take i l))) (1 + 33 * i) 33 (prefix_bytes (at l i)) (length-matter (at l i).0) (rw length-sets (omega arith))
    ∙ section-step prefix_bytes 33 (λ p. length-matter p.0) b l i no_prefix h

-- what is stored into a lent part is stored in the whole
part-run : (a i : ℕ) (vs l : List ℕ) → take a l ++ sets (drop a l) i vs ≡ sets l (a + i) vs
part-run a i [] l = take-append-drop a l
part-run a i (v ∷ vs) l =
    let m = set l (a + i) v in
    ap (λ (r : List ℕ). r ++ sets (set (drop a l) i v) (suc i) vs) (sym (take-set-le a l (a + i) v (le-add_right a i)))
    ∙ ap (λ (r : List ℕ). take a m ++ sets r (suc i) vs) (sym (drop-set-add a l i v))
    ∙ part-run a (suc i) vs m
    ∙ ap (λ (k : ℕ). sets m k vs) (add-suc a i)

part-sets : (a : ℕ) (l vs : List ℕ) → a ≤ length l → put_mid a (length l - a) l (sets (mid_of a (length l - a) l) 0 vs) ≡ sets l a vs
part-sets a l vs h =
    let k = length l - a in
    let n : length (drop a l) ≤ k = rw length-drop (omega arith) in
    let e : drop k (drop a l) ≡ [] = drop_of_length-le (drop a l) {i = k} n in
    let f : take k (drop a l) ≡ drop a l = take_all k (drop a l) n in
    rw (e, append-nil, f, part-run a 0 vs l, add-zero)

pub part-stored : (a : ℕ) (l m vs : List ℕ) → a ≤ length l → m ≡ sets (mid_of a (length l - a) l) 0 vs → put_mid a (length l - a) l m ≡ sets l a vs
part-stored a l m vs h e = ap (put_mid a (length l - a) l) e ∙ part-sets a l vs h

pub length_front : (a b : Matter) (n : Sn) (d : Matter) (toad : ℕ) (configs : List ℕ) → length (front_bytes a b n d toad configs) ≡ 120 + length configs
unfolding front_bytes
length_front a b n d toad configs = rw (length-append, length-append, length-head, length_digits, length-configs) (omega arith)

pub state-front : (a b : Matter) (n : Sn) (d : Matter) (toad : ℕ) (configs : List ℕ) (backers : List BasicPrefix) → state_bytes a b n d toad configs backers ≡ front_bytes a b n d toad configs ++ section_bytes prefix_bytes backers
unfolding state_bytes rest_bytes front_bytes
state-front a b n d toad configs backers = sym (simp append_assoc)

-- a run copied into a part of its length is stored
middle-sets : (a n : ℕ) (l vs : List ℕ) → length vs ≡ n → a + n ≤ length l → put_mid a (a + n - a) l vs ≡ sets l a vs
middle-sets a n l vs e h =
    let g : drop (a + n - a) (drop a l) ≡ drop (a + length vs) l = drop-drop (a + n - a) a l ∙ ap (λ (k : ℕ). drop k l) (omega arith) in
    rw (g, ← append_assoc) (sym (sets-eq vs l a (omega arith)))

take-same : (k : ℕ) (l : List ℕ) → take (length (take k l)) l ≡ take k l
take-same zero l = refl
take-same (suc k) [] = refl
take-same (suc k) (x ∷ l) = ap (λ (t : List ℕ). x ∷ t) (take-same k l)

joined-bytes : (l : List ℕ) → joined byte_bytes l ≡ l
unfolding joined
joined-bytes [] = refl
joined-bytes (x ∷ l) = ap (λ (t : List ℕ). x ∷ t) (joined-bytes l)

abbrev pub terms : ℕ → List ℕ → List ℕ
terms toad configs = digits 4 toad ++ section_bytes byte_bytes configs

length-terms : (toad : ℕ) (configs : List ℕ) → length (terms toad configs) ≡ 5 + length configs
length-terms toad configs = rw (length-append, length_digits, length-configs) (omega arith)

pub terms-stored : (l o m : List ℕ) (at n toad : ℕ) (c : Configs) → n ≡ length (view_configs c) → at + (5 + n) ≤ length l → o ≡ put l at (digits 4 toad) → m ≡ take n c.codes → put_mid (at + 5) (at + 5 + n - (at + 5)) (set o (at + 4) n) m ≡ sets l at (terms toad (view_configs c))
unfolding section_bytes view_configs
terms-stored l o m at n toad c e h f g =
    let d = digits 4 toad in
    let v : m ≡ take c.count c.codes = g ∙ ap (λ (k : ℕ). take k c.codes) e ∙ take-same c.count c.codes in
    let p : o ≡ sets l at d = f ∙ put-sets l at 4 d (length_digits 4 toad) (omega arith) in
    let q : length (set o (at + 4) n) ≡ length l = rw (length-set, p, length-sets) in
    let r : at + 5 ≡ suc (at + 4) = omega arith in
    middle-sets (at + 5) n (set o (at + 4) n) m (ap length v ∙ sym e) (omega arith)
    ∙ rw (v, p, e, r, joined-bytes, sets-append, length_digits)

module _ (l : List ℕ) (at : ℕ) (a b : Matter) (n : Sn) (d : Matter) (toad : ℕ) (configs : List ℕ) where
  front-sets : (o m : List ℕ) → at + 115 ≤ length l → o ≡ put l at (head_bytes a b n d) → m ≡ sets o (at + 115) (terms toad configs) → m ≡ sets l at (front_bytes a b n d toad configs)
  unfolding front_bytes
  front-sets o m h e f =
      let p : o ≡ sets l at (head_bytes a b n d) = e ∙ put-sets l at 115 (head_bytes a b n d) (length-head a b n d) h in
      f
      ∙ ap (λ (t : List ℕ). sets t (at + 115) (terms toad configs)) p
      ∙ ap (λ (k : ℕ). sets (sets l at (head_bytes a b n d)) (at + k) (terms toad configs)) (sym (length-head a b n d))
      ∙ sym (sets-append l at (head_bytes a b n d) (terms toad configs))

  -- behind the head stand five bytes and the config bytes
  whole : (k : ℕ) → k ≡ 5 + length configs → length (front_bytes a b n d toad configs) ≡ 115 + k
  whole k e = omega (arith, length_front a b n d toad configs)

  pub front-refused : (k : ℕ) → k ≡ 5 + length configs → false ≡ leb (at + (115 + k)) (length l) → (false ≡ room l at (length (front_bytes a b n d toad configs))) × (l ≡ put l at (front_bytes a b n d toad configs))
  front-refused k e h =
      let f = front_bytes a b n d toad configs in
      refused l at (length f) f refl (rw (whole k e) (sym h))

  pub front-stored : (k : ℕ) (o m : List ℕ) → k ≡ 5 + length configs → true ≡ leb (at + (115 + k)) (length l) → o ≡ put l at (head_bytes a b n d) → m ≡ sets o (at + 115) (terms toad configs) → (true ≡ room l at (length (front_bytes a b n d toad configs))) × (m ≡ put l at (front_bytes a b n d toad configs))
  front-stored k o m e h p q =
      let f = front_bytes a b n d toad configs in
      stored l at (length f) f m refl (rw (whole k e) (sym h)) (front-sets o m (omega (arith, leb-true (at + (115 + k)) (length l) (sym h))) p q)

  module _ (backers : List BasicPrefix) where
    abbrev state : List ℕ
    state = state_bytes a b n d toad configs backers

    pub state-refused : (k : ℕ) → k ≡ 121 + length configs + 33 * length backers → false ≡ leb (at + k) (length l) → (false ≡ room l at (length state)) × (l ≡ put l at state)
    state-refused k e h = refused l at (length state) state refl (rw (length-state a b n d toad configs backers, ← e) (sym h))

    pub state-stored : (k i : ℕ) (o m q : List ℕ) → k ≡ 121 + length configs + 33 * length backers → true ≡ leb (at + k) (length l) → i ≡ 5 + length configs → o ≡ put l at (head_bytes a b n d) → m ≡ sets o (at + 115) (terms toad configs) → q ≡ sets (mid_of (at + 115 + i) (length m - (at + 115 + i)) m) 0 (section_bytes prefix_bytes backers) → (true ≡ room l at (length state)) × (put_mid (at + 115 + i) (length m - (at + 115 + i)) m q ≡ put l at state)
    state-stored k i o m q e h j f g r =
        let w = leb-true (at + k) (length l) (sym h) in
        let front = front_bytes a b n d toad configs in
        let p : m ≡ sets l at front = front-sets o m (omega arith) f g in
        let s : length m ≡ length l = rw (p, length-sets) in
        let t : at + 115 + i ≡ at + length front = omega (arith, length_front a b n d toad configs) in
        let whole : sets m (at + 115 + i) (section_bytes prefix_bytes backers) ≡ sets l at state = rw (state-front a b n d toad configs backers, sets-append, p, t) in
        stored l at (length state) state _ refl (rw (length-state a b n d toad configs backers, ← e) (sym h))
        (part-stored (at + 115 + i) m q (section_bytes prefix_bytes backers) (omega arith) r ∙ whole)
