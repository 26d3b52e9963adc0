-- Laws of what comes of an image, told by the code's structs.
--     digest-more      a byte more
--     written-within   an image that was written is within its buffer
--     stored, short    what is found of the image, and of a buffer that is too short for it
--     registries-counted, rows-counted   the counts are the ledger's
--     key-read         the key that a record asks for
--     answer-kept      an answer without its ledger has the same number
--     facts-found      what is found of the whole
use Rattle.std.specs.Prelude.{Result, Ok, Err}
use Rattle.std.specs.Result.{result_and, result_unwrap_or}
use Prim.Native.Nat.{ℕ, suc, ◌+◌, ◌*◌, ◌%◌, ◌≤◌}
use mathlib.Core.Path.{◌≡◌, refl, ap, ◌∙◌}
use mathlib.Core.Bool.{Bool, true, false, cond, ◌&&◌}
use mathlib.Core.List.{List}
use native.Mathlib.Omega.{arith}
use lib.Dec.{eqb, leb}
use lib.ListN.{length, take, get_or}
use lib.Seq.{sets, length-sets}
use borrow.Author.Tests.{leb-true}
use Rattle.cesr.specs.declared.Matter.{Matter}
use Rattle.cesr.specs.Primitives.{read_matter}
use Rattle.registry_laws.specs.Pairs.{Pair}
use Rattle.ledger_step.specs.Ledgers.{Ledger, LookedUp, lent_ledger, sound, look_up}
use Rattle.ledger_step.specs.Refusals.{refusal_of}
use Rattle.ledger_step.specs.declared.Malformed.{Malformed}
use Rattle.ledger_image.specs.Images.{ImageAnswer, Written, image_number, ledger_bytes, written_of}
use Rattle.ledger_standing.specs.declared.Standing.{Standing}
use Rattle.ledger_standing.specs.Lookups.{key_pair, view_looked_up}
use Rattle.ledger_written.specs.declared.WriteError.{WriteError}
use Rattle.ledger_written.proofs.WrittenBytes.{bytes-held, size_or}
use Rattle.ledger_written.specs.Writes.{view_written}
use Rattle.ledger_table.specs.declared.Ledger as Value
use Rattle.ledger_table.specs.Tables.{view_ledger, ledger_after}
use Rattle.images.specs.declared.answer.Image.{Image}
use Rattle.images.specs.Judgement.{digest_up_to, digest_of, stored_of, refused_short, short_of, key_in, Told, facts_of}

pub digest-more : (s : List ℕ) (i c b : ℕ) → c ≡ digest_up_to s i → b ≡ get_or s i 0 → (c * 31 + b + 1) % 4294967291 ≡ digest_up_to s (i + 1)
unfolding digest_up_to
digest-more s i c b e f =
    let p : i + 1 ≡ suc i = omega arith in
    rw (e, f, p)

written-fits : (l : Ledger) (out : List ℕ) → (written_of l out).size ≤ length (written_of l out).bytes
unfolding written_of
written-fits l out = go (sound l) (leb (length (ledger_bytes l)) (length out)) refl
  where
    go : (ok room : Bool) → leb (length (ledger_bytes l)) (length out) ≡ room → ◌≤◌ (cond {A = Written} ok (cond room (record { number = 0; size = length (ledger_bytes l); bytes = sets out 0 (ledger_bytes l) }) (record { number = 30; size = 0; bytes = out })) (record { number = 1; size = 0; bytes = out })).size (length (cond {A = Written} ok (cond room (record { number = 0; size = length (ledger_bytes l); bytes = sets out 0 (ledger_bytes l) }) (record { number = 30; size = 0; bytes = out })) (record { number = 1; size = 0; bytes = out })).bytes)
    go true true e = omega (arith, leb-true (length (ledger_bytes l)) (length out) e, length-sets out 0 (ledger_bytes l))
    go true false e = omega arith
    go false room e = omega arith

module _ (l : Ledger) (out after : List ℕ) (r : Result ℕ WriteError) (q : view_written r after ≡ written_of l out) where
  after-is : after ≡ (written_of l out).bytes
  after-is = bytes-held r after ∙ ap (λ (w : Written). w.bytes) q

  module _ (k : ℕ) (g : k ≡ result_unwrap_or r 0) where
    size-is : k ≡ (written_of l out).size
    size-is = g ∙ size_or r after ∙ ap (λ (w : Written). w.size) q

    pub written-within : k ≤ length after
    written-within = rw (size-is, after-is) (written-fits l out)

    pub stored : (d : ℕ) → d ≡ digest_of (take k after) → ◌≡◌ {A = Image} (record { size = k; digest = d }) (stored_of (written_of l out))
    unfolding stored_of
    stored d e = rw (e, size-is, after-is)

  pub short : (d e : ℕ) (t : Bool) → d ≡ digest_of out → e ≡ digest_of after → t ≡ eqb (view_written r after).number 30 → (t && eqb e d) ≡ refused_short l out
  unfolding refused_short
  short d e t f g h =
      let n : t ≡ eqb (written_of l out).number 30 = h ∙ ap (λ (w : Written). eqb w.number 30) q in
      rw (n, f, g, after-is)

module _ (t : Value.Ledger) where
  pub registries-counted : t.registry_count ≡ (view_ledger t).registry_count
  unfolding view_ledger lent_ledger
  registries-counted = refl

  pub rows-counted : t.row_count ≡ (view_ledger t).row_count
  unfolding view_ledger lent_ledger
  rows-counted = refl

pub key-read : (e : List ℕ) (a b : Matter) → a ≡ read_matter e 12 → b ≡ read_matter e 45 → key_pair (record { 0 = a }) (record { 0 = b }) ≡ key_in e
unfolding key_in
key-read e a b p q = rw (p, q)

pub refusal-is : (f : Result Standing Malformed) → refusal_of f ≡ (view_looked_up f).refusal
refusal-is (Ok s) = refl
refusal-is (Err e) = refl

pub answer-kept : {A : Type 0} (r : Result A Malformed) (done : Result Unit Malformed) → refusal_of done ≡ 0 → refusal_of (result_and r done) ≡ refusal_of r
answer-kept (Ok x) done h = h
answer-kept (Err e) done h = refl

pub facts-found : (a : ImageAnswer) (before l : Ledger) (k : Pair) (out other : List ℕ) (n gs ws : ℕ) (i : Image) (s : Bool) (rf sf : ℕ) (f : LookedUp) → n ≡ image_number a → l ≡ ledger_after a before → gs ≡ l.registry_count → ws ≡ l.row_count → i ≡ stored_of (written_of l out) → s ≡ short_of l i.size other → rf ≡ f.refusal → sf ≡ f.standing → f ≡ look_up l k → ◌≡◌ {A = Told} (record { number = n; registries = gs; rows = ws; size = i.size; digest = i.digest; short = s; refusal = rf; standing = sf }) (facts_of a before k out other)
unfolding facts_of
facts-found a before l k out other n gs ws i s rf sf f en el eg ew ei es er et ef = rw (en, ← el, eg, ew, es, ← ei, er, et, ← ef)
