-- The run, turn by turn, over an input whose bytes are known.
--     starts     after the count was read, all that there is to print is still to come
--     goes-on    a turn prints what it has to
--     ends       behind the last turn stands the last line
use Rattle.std.proofs.Common.{◌≡◌, ℕ, zero, suc, ◌+◌, ◌-◌, ◌≤◌, List, [], ◌++◌, Bool, true, false, cond, ◌&&◌, Some, None, length, take, drop, refl, arith, append_assoc}
use Rattle.std.proofs.Math.Dec.{ltb, leb}
use Rattle.std.proofs.lemmas.Bool.{ltb-true}
use Rattle.std.proofs.lemmas.List.{drop-drop}
use Rattle.std.proofs.KnownBytes.{Appends-nil, Appends-trans}
use Rattle.std.specs.Io.KnownBytes.{Appends}
use Rattle.std.specs.declared.option.Option.{Option}
use Rattle.laws.specs.Number.{number_at}
use Rattle.reading.specs.Fronts.{Takes}
use Rattle.ledger_text.specs.Lines.{line_bytes, last_line, broken_line}
use Rattle.ledger_frames.specs.declared.Run.{Run}
use Rattle.std.specs.Option.{unwrap_or}
use Rattle.ledger_frames.specs.Runs.{Outcome, size_of, start_of, took_of, finish_of, taking, turns_of, run_of}
use Rattle.ledger_frames.specs.Printed.{Answering, taken_lines, after_taken, run_prints, printed_of}
use Rattle.ledger_frames.proofs.RunLaws.{run-printed}

-- a turn that is taken is one of those that are left
fewer : (n : ℕ) (r : Run) (z : Option ℕ) (got : ℕ) → r.left ≤ suc n → (took_of r z got).left ≤ n
unfolding took_of
fewer n r None got h = omega arith
fewer n r (Some size) got h = go (ltb 0 r.left && leb size got)
  where
    go : (b : Bool) → (cond {A = Run} b (record { count = r.count; left = r.left - 1; broken = r.broken }) (record { count = r.count; left = 0; broken = true })).left ≤ n
    go true = omega arith
    go false = omega arith

module _ {L : Type 0} (k : Answering L) where
  -- what a turn prints of an attempt, and the ledger behind it; q is the run behind it too
  abbrev pub line_after : Run → L → List ℕ → List ℕ
  line_after q l a = cond q.broken [] (line_bytes (q.count - q.left) (k.number l a) (k.letter l a))

  abbrev pub held_after : Run → L → List ℕ → L
  held_after q l a = cond q.broken l (k.next l a)

  prints-taking : (q : Run) (a : List ℕ) (o : Outcome) (l : L) → run_prints k l (taking q a o) ≡ line_after q l a ++ run_prints k (held_after q l a) o
  unfolding run_prints taken_lines after_taken
  prints-taking q a o l = go q.broken refl
    where
      go : (b : Bool) → q.broken ≡ b → run_prints k l (taking q a o) ≡ line_after q l a ++ run_prints k (held_after q l a) o
      go true e = rw e
      go false e = rw (e, append_assoc)

  turn-prints : (n : ℕ) (r : Run) (s : List ℕ) (l : L) → ltb 0 r.left ≡ true → run_prints k l (turns_of (suc n) r s) ≡ line_after (took_of r (size_of (take 2 s)) (length (take (unwrap_or (size_of (take 2 s)) 0) (drop 2 s)))) l (take (unwrap_or (size_of (take 2 s)) 0) (drop 2 s)) ++ run_prints k (held_after (took_of r (size_of (take 2 s)) (length (take (unwrap_or (size_of (take 2 s)) 0) (drop 2 s)))) l (take (unwrap_or (size_of (take 2 s)) 0) (drop 2 s))) (turns_of n (took_of r (size_of (take 2 s)) (length (take (unwrap_or (size_of (take 2 s)) 0) (drop 2 s)))) (drop (2 + unwrap_or (size_of (take 2 s)) 0) s))
  unfolding turns_of
  turn-prints n r s l h = rw h (prints-taking _ _ _ l)

  -- Somewhere in a run over an input: what is left of it, how many turns may still come, and what was printed. That, and what is to be
  -- printed of the rest, is all that there is to print.
  pub record Going (ahead before after : Option (List ℕ)) (r : Run) (l : L) (all : List ℕ) : Type 0 where
    pub rest : List ℕ
    pub turns : ℕ
    pub text : List ℕ
    pub left : ahead ≡ Some rest
    pub enough : r.left ≤ turns
    pub printed : Appends before after text
    pub whole_text : text ++ run_prints k l (turns_of turns r rest) ≡ all

  pub starts : (s : List ℕ) (ahead writer : Option (List ℕ)) (r : Run) (l : L) → r ≡ start_of (take 2 s) → ahead ≡ Some (drop 2 s) → Going ahead writer writer r l (printed_of k l s)
  unfolding run_of
  starts s ahead writer r l e f =
      record {
        rest = drop 2 s;
        turns = number_at s 0 2 + r.left;
        text = [];
        left = f;
        enough = omega arith;
        printed = Appends-nil writer;
        whole_text = rw e (run-printed k (number_at s 0 2 + (start_of (take 2 s)).left) l s (omega arith));
      }

  -- a turn, told of what it found; a is the attempt, or what there is of it
  turns-on : (turns : ℕ) (rest text all : List ℕ) (r : Run) (l : L) (z : Option ℕ) (a : List ℕ) → text ++ run_prints k l (turns_of turns r rest) ≡ all → r.left ≤ turns → ltb 0 r.left ≡ true → z ≡ size_of (take 2 rest) → a ≡ take (unwrap_or z 0) (drop 2 rest) → (n : ℕ) × ((took_of r z (length a)).left ≤ n) × ((text ++ line_after (took_of r z (length a)) l a) ++ run_prints k (held_after (took_of r z (length a)) l a) (turns_of n (took_of r z (length a)) (drop (unwrap_or z 0) (drop 2 rest))) ≡ all)
  turns-on zero rest text all r l z a e h w q f = absurd (omega (arith, ltb-true 0 r.left w))
  turns-on (suc n) rest text all r l z a e h w q f = (n, fewer n r z (length a) h, rw (append_assoc, drop-drop, f, q) (rw (turn-prints n r rest l w) at e))

  -- The length was read, then the body, then the attempt was answered.
  pub goes-on : (ahead between behind before writer after : Option (List ℕ)) (r q : Run) (l m : L) (all a : List ℕ) (z : Option ℕ) → Going ahead before writer r l all → ltb 0 r.left ≡ true → Takes ahead between 2 (λ bytes. z ≡ size_of bytes) → Takes between behind (unwrap_or z 0) (λ bytes. a ≡ bytes) → q ≡ took_of r z (length a) → m ≡ held_after q l a → Appends writer after (line_after q l a) → Going behind before after q m all
  goes-on ahead between behind before writer after r q l m all a z g w t u qe me p =
      let t' = rw g.left at t in
      let u' = rw t'.1 at u in
      let o = took_of r z (length a) in
      let next = turns-on g.turns g.rest g.text all r l z a g.whole_text g.enough w t'.0 u'.0 in
      rw (me, qe) record {
        rest = drop (unwrap_or z 0) (drop 2 g.rest);
        turns = next.0;
        text = g.text ++ line_after o l a;
        left = u'.1;
        enough = next.1;
        printed = Appends-trans before writer after g.text (line_after o l a) g.printed (rw qe at p);
        whole_text = next.2;
      }

  -- no turn is to come
  turns-over : (turns : ℕ) (r : Run) (rest : List ℕ) (l : L) → ltb 0 r.left ≡ false → run_prints k l (turns_of turns r rest) ≡ cond (finish_of r (length (take 1 rest))).broken broken_line (last_line (k.registries l) (k.credentials l))
  unfolding turns_of run_prints taken_lines after_taken
  turns-over zero r rest l h = refl
  turns-over (suc n) r rest l h = rw h

  pub ends : (ahead behind before writer after : Option (List ℕ)) (r : Run) (l : L) (all : List ℕ) (more : ℕ) → Going ahead before writer r l all → ltb 0 r.left ≡ false → Takes ahead behind 1 (λ bytes. more ≡ length bytes) → Appends writer after (cond (finish_of r more).broken broken_line (last_line (k.registries l) (k.credentials l))) → Appends before after all
  ends ahead behind before writer after r l all more g w t p =
      let t' = rw g.left at t in
      let last = turns-over g.turns r g.rest l w in
      let p' = rw t'.0 at p in
      rw (← g.whole_text, last) (Appends-trans before writer after g.text _ g.printed p')
