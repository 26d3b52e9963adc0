-- Where the names of an event stand that was read to its end.
--     Fixed         a reader that takes n bytes
--     Reads         a reader whose value its place tells
--     event-named   such an event names what stands at the places of its kind
use Prim.Native.Nat.{ℕ, ◌+◌}
use mathlib.Core.Path.{◌≡◌, refl, ap, ◌∙◌}
use mathlib.Core.Bool.{Bool, true, false, cond}
use mathlib.Core.List.{List, []}
use native.Mathlib.Nat.{add_assoc}
use lib.Dec.{eqb}
use Rattle.laws.specs.Number.{number_at}
use Rattle.cesr.specs.Primitives.{said_at}
use Rattle.cesr.specs.declared.Said.{Said}
use Rattle.events_seal.specs.declared.Seal.{Seal}
use Rattle.events_seal.specs.declared.Seal.TheVariants.{Digest, Root, Source, Last, Back, Kind, Opaque}
use Rattle.codec_cursor.specs.declared.Cursor.{Cursor}
use Rattle.codec_cursor.specs.Readers.{Reader, starting, placed, need, read_byte, read_byte_if, read_if, read_identifier, read_said, counted, both, after, ended}
use Rattle.codec_cursor.specs.declared.Read.{Read}
use Rattle.codec.specs.Events.{vcp_of, vrt_of, iss_of, rev_of, bis_of, brv_of, seal_of, read_event_seal, read_other_seal, read_seal, read_vcp, read_vrt, read_iss, read_rev, read_bis, read_brv, read_kind, read_event}
use Rattle.events_tel.specs.TelEvents.{Event}
use Rattle.codec_laws.proofs.Stands.{went, passed}
use Rattle.codec_laws.proofs.Sticky.{Sticky, sticky-both, sticky-number, sticky-said, sticky-identifier, sticky-counted, sticky-after, sticky-ended, sticky-toad, sticky-configs, sticky-prefixes, sticky-event-seal, sticky-seal}
use Rattle.registry_state.specs.States.{no_said}
use Rattle.ledger_step.specs.Pairs.{pair_in}
use Rattle.std.proofs.Common.{Result, Ok}
use Rattle.registry_error.specs.declared.RegistryRejection.{RegistryRejection}
use Rattle.ledger_asked.specs.declared.Named.{Named}
use Rattle.ledger_asked.specs.declared.Asks.TheVariants.{Inception, Rotation, Issue, Revocation}
use Rattle.ledger_asked.specs.Names.{about, named_pair, named_event, named_at, pair_at, named_by, head_named}

-- a reader that takes n bytes
record Fixed {A : Type 0} (p : Reader A) (n : ℕ) : Type 0 where
  before : (s : List ℕ) (c : Cursor) → (p s c).next.ok ≡ true → c.ok ≡ true
  next : (s : List ℕ) (c : Cursor) → (p s c).next.ok ≡ true → (p s c).next ≡ placed (c.at + n)

-- a reader whose value its place tells
record Reads {A : Type 0} (p : Reader A) (v : List ℕ → ℕ → A) : Type 0 where
  before : (s : List ℕ) (c : Cursor) → (p s c).next.ok ≡ true → c.ok ≡ true
  value : (s : List ℕ) (c : Cursor) → (p s c).next.ok ≡ true → (p s c).value ≡ v s c.at

-- a cursor that has not stopped is its place
at_place : (c : Cursor) → c.ok ≡ true → c ≡ placed c.at
at_place c h = ap (λ (t : Bool). record { ok = t; at = c.at }) h

fixed-byte : Fixed read_byte 1
unfolding read_byte
fixed-byte = record { before = λ s c h. (went s c 1 h).ok; next = λ s c h. (went s c 1 h).goes }

fixed-said : Fixed read_said 33
unfolding read_said read_if
fixed-said = record {
  before = sticky-said.before;
  next = λ s c h. let t = passed _ _ h in t.stays ∙ (went s c 33 t.ok).goes;
}

counted_next : (n : ℕ) (s : List ℕ) (c : Cursor) → (counted n s c).ok ≡ true → counted n s c ≡ placed (c.at + 1)
unfolding counted
counted_next n s c h = let t = passed _ _ h in t.stays ∙ fixed-byte.next s c t.ok

fixed-ended : {A : Type 0} {p : Reader A} {n : ℕ} (m : ℕ) → Fixed p n → Fixed (ended p m) (n + 1)
fixed-ended {A} {p} {n} m f = record {
  before = λ s c h. f.before s c (sticky-counted m s (p s c).next h);
  next = λ s c h.
      counted_next m s (p s c).next h
      ∙ ap (λ (d : Cursor). placed (d.at + 1)) (f.next s c (sticky-counted m s (p s c).next h))
      ∙ ap placed (add_assoc c.at n 1);
}

-- the whole of a reader, at its place
reads-own : {A : Type 0} {p : Reader A} → Sticky p → Reads p (λ s at. (p s (placed at)).value)
reads-own {A} {p} k = record { before = k.before; value = λ s c h. ap (λ (d : Cursor). (p s d).value) (at_place c (k.before s c h)) }

reads_both : {A B : Type 0} {p : Reader A} {q : Reader B} {n : ℕ} {v : List ℕ → ℕ → B} → Fixed p n → Reads q v → Reads (both p q) (λ s at. ((p s (placed at)).value, v s (at + n)))
reads_both {A} {B} {p} {q} {n} {v} f r = record {
  before = λ s c h. f.before s c (r.before s (p s c).next h);
  value = λ s c h.
      let e = r.before s (p s c).next h in
      let x : (p s c).value ≡ (p s (placed c.at)).value = ap (λ (d : Cursor). (p s d).value) (at_place c (f.before s c e)) in
      let y : (q s (p s c).next).value ≡ v s (c.at + n) = r.value s (p s c).next h ∙ ap (λ (d : Cursor). v s d.at) (f.next s c e) in
      ap (λ (a : A). (a, (q s (p s c).next).value)) x ∙ ap (λ (b : B). ((p s (placed c.at)).value, b)) y;
}

reads-after : {A : Type 0} {p : Reader A} {v : List ℕ → ℕ → A} (n : ℕ) → Reads p v → Reads (after n p) (λ s at. v s (at + 1))
reads-after {A} {p} {v} n r = record {
  before = λ s c h. sticky-counted n s c (r.before s (counted n s c) h);
  value = λ s c h. r.value s (counted n s c) h ∙ ap (λ (d : Cursor). v s d.at) (counted_next n s c (r.before s (counted n s c) h));
}

-- a seal: its kind, and behind a 4 what an event seal has
reads-seal : Reads read_seal (λ s at. cond (eqb (number_at s at 1) 4) (read_event_seal s (placed (at + 1))).value (seal_of (number_at s at 1)))
unfolding read_seal read_other_seal read_byte_if read_byte
reads-seal = record {
  before = sticky-seal.before;
  value = λ s c. go s c (eqb (read_byte s c).value 4);
}
  where
    go : (s : List ℕ) (c : Cursor) (t : Bool) → (cond t (read_event_seal s (read_byte s c).next) (read_other_seal s c)).next.ok ≡ true → (cond t (read_event_seal s (read_byte s c).next) (read_other_seal s c)).value ≡ cond t (read_event_seal s (placed (c.at + 1))).value (seal_of (number_at s c.at 1))
    go s c true h = ap (λ (d : Cursor). (read_event_seal s d).value) (fixed-byte.next s c (sticky-event-seal.before s (read_byte s c).next h))
    go s c false h = refl

-- a seal that is no event seal names no pair
cond_both : (t : Bool) (x y : Seal) (k : Said) → pair_in x k ≡ [] → pair_in y k ≡ [] → pair_in (cond t x y) k ≡ []
cond_both true x y k p q = p
cond_both false x y k p q = q

other-pair : (n : ℕ) (k : Said) → pair_in (seal_of n) k ≡ []
unfolding seal_of
other-pair n k =
    cond_both (eqb n 1) Digest _ k refl
    (cond_both (eqb n 2) Root _ k refl
    (cond_both (eqb n 3) Source _ k refl
    (cond_both (eqb n 5) Last _ k refl
    (cond_both (eqb n 6) Back _ k refl
    (cond_both (eqb n 7) Kind Opaque k refl refl)))))

seal-pair : (t : Bool) (x : Seal) (n : ℕ) (k : Said) → named_pair (pair_in (cond t x (seal_of n)) k) ≡ named_pair (cond t (pair_in x k) [])
seal-pair true x n k = refl
seal-pair false x n k = ap named_pair (other-pair n k)

-- what an event that was read names, by the place where it was read
named-by : {A : Type 0} {p : Reader A} {v : List ℕ → ℕ → A} (f : A → Event) → Reads p v → (s : List ℕ) (c : Cursor) (n : ℕ) → (c.ok ≡ true → c ≡ placed n) → (p s c).next.ok ≡ true → named_event (f (p s c).value) ≡ named_event (f (v s n))
named-by {A} {p} {v} f r s c n o h =
    ap (λ (x : A). named_event (f x)) (r.value s c h ∙ ap (λ (d : Cursor). v s d.at) (o (r.before s c h)))

-- one of two events, by a test
either : (t : Bool) (x y : Read Event) (a b : Result Named RegistryRejection) → (x.next.ok ≡ true → named_event x.value ≡ a) → (y.next.ok ≡ true → named_event y.value ≡ b) → (cond t x y).next.ok ≡ true → named_event (cond t x y).value ≡ cond t a b
either true x y a b h k e = h e
either false x y a b h k e = k e

-- a said, and the empty sections behind it
four-empty : Fixed (ended (ended (ended (ended read_said 0) 0) 0) 0) 37
four-empty = fixed-ended 0 (fixed-ended 0 (fixed-ended 0 (fixed-ended 0 fixed-said)))

five-empty : Sticky (ended (ended (ended (ended (ended read_said 0) 0) 0) 0) 0)
five-empty = sticky-ended 0 (sticky-ended 0 (sticky-ended 0 (sticky-ended 0 (sticky-ended 0 sticky-said))))

-- each kind, from the place behind its byte
module _ (s : List ℕ) (c : Cursor) (o : c.ok ≡ true → c ≡ placed 1) where
  vcp-named : (read_vcp s c).next.ok ≡ true → named_event (read_vcp s c).value ≡ Ok (about Inception (said_at s 2) no_said)
  unfolding read_vcp read_said read_if
  vcp-named =
      named-by vcp_of
      (reads-after 2 (reads-own (sticky-both sticky-said (sticky-both sticky-identifier (sticky-after 1 (sticky-both sticky-toad (sticky-both sticky-configs (sticky-ended 0 (sticky-ended 0 sticky-prefixes)))))))))
      s c 1 o

  vrt-named : (read_vrt s c).next.ok ≡ true → named_event (read_vrt s c).value ≡ Ok (about Rotation (said_at s 35) no_said)
  unfolding read_vrt read_said read_if
  vrt-named =
      named-by vrt_of
      (reads-after 3 (reads_both fixed-said (reads-own (sticky-both sticky-said (sticky-both sticky-said (sticky-after 2 (sticky-both sticky-number (sticky-both sticky-toad (sticky-after 0 (sticky-both sticky-prefixes (sticky-ended 0 sticky-prefixes)))))))))))
      s c 1 o

  iss-named : (read_iss s c).next.ok ≡ true → named_event (read_iss s c).value ≡ Ok (named_at Issue s)
  unfolding read_iss read_said read_if
  iss-named = named-by iss_of (reads-after 3 (reads_both fixed-said (reads_both fixed-said (reads-own five-empty)))) s c 1 o

  rev-named : (read_rev s c).next.ok ≡ true → named_event (read_rev s c).value ≡ Ok (named_at Revocation s)
  unfolding read_rev read_said read_if
  rev-named = named-by rev_of (reads-after 4 (reads_both fixed-said (reads_both fixed-said (reads-own (sticky-both sticky-said five-empty))))) s c 1 o

  bis-named : (read_bis s c).next.ok ≡ true → named_event (read_bis s c).value ≡ Ok (named_at Issue s)
  unfolding read_bis read_said read_if
  bis-named =
      named-by bis_of (reads-after 3 (reads_both fixed-said (reads_both fixed-said (reads_both four-empty (reads-after 1 reads-seal))))) s c 1 o

  brv-named : (read_brv s c).next.ok ≡ true → named_event (read_brv s c).value ≡ named_pair (pair_at s)
  unfolding read_brv read_said read_if read_event_seal read_identifier
  brv-named h =
      named-by brv_of (reads-after 3 (reads_both fixed-said (reads_both fixed-said (reads_both four-empty (reads-after 1 reads-seal))))) s c 1 o h
      ∙ seal-pair (eqb (number_at s 106 1) 4) (read_event_seal s (placed 107)).value (number_at s 106 1) (said_at s 35)

-- by the kind byte
kind-named : (s : List ℕ) (c : Cursor) → (c.ok ≡ true → c ≡ placed 1) → (k : ℕ) → (read_kind k s c).next.ok ≡ true → named_event (read_kind k s c).value ≡ named_by k s
unfolding read_kind
kind-named s c o k =
    either (eqb k 1) _ _ _ _ (vcp-named s c o)
    (either (eqb k 2) _ _ _ _ (vrt-named s c o)
    (either (eqb k 3) _ _ _ _ (iss-named s c o)
    (either (eqb k 4) _ _ _ _ (rev-named s c o)
    (either (eqb k 5) _ _ _ _ (bis-named s c o)
    (brv-named s (need c (eqb k 6)) (λ h. let t = passed c (eqb k 6) h in t.stays ∙ o t.ok))))))

pub event-named : (s : List ℕ) → (read_event s starting).next.ok ≡ true → named_event (read_event s starting).value ≡ head_named s
unfolding read_event read_byte head_named
event-named s = kind-named s (read_byte s starting).next (fixed-byte.next s starting) (number_at s 0 1)
