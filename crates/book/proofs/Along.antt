-- What holds of the book along a list of calls, and that a state's test of the end is the book's own where the counts and the bound are so. Of the book
-- alone: no state, no family. Assumes nothing.
use mathlib.Core.Path.{◌≡◌, refl, sym, subst, ap}
use mathlib.Core.Bool.{Bool, true, false, cond}
use mathlib.Core.Logic.{⊎_elim}
use mathlib.Core.List.{List, [], ◌∷◌, ◌++◌, append-nil, append_assoc}
use Prim.Native.Nat.{ℕ, suc, ◌+◌, ◌≤◌}
use native.Mathlib.Nat.{le_refl}
use native.Mathlib.Omega.{arith}
use borrow.Author.Tests.{leb-false, ltb-false, lt-leb, le-ltb}
use lib.Dec.{T, leb, ltb}
use Rattle.rule.specs.Refusal.{ENDED}
use Rattle.book.specs.Score.{Options, Standing, Judged, turned_down, empty, few, scored}
use Rattle.book.specs.Book.{Book, Held, Outcome, is_refused, is_held, is_won, raised, lowered, bound_after, beats, scored_answer, entered, ended_at, has_ended, called, fresh, book_after, outcomes_of}
use Rattle.book.specs.Calls.{closed_at, is_closed, tried}
use Rattle.book.specs.Rule.{Score, Among, scores_in, Picks}
use Rattle.rule.specs.Arith.{clear}
use Rattle.book.proofs.Winners.{among_none, among_last, score_at, picks_next}

-- ---- one call, before and after the end

module _ {M : Type 0} (o : Options) (b : Book M) (j : Judged M) where
  pub called_late : has_ended b ≡ true → called o b j ≡ record { book = b; outcome = is_refused ENDED }
  unfolding called
  called_late h = rw h

  pub called_open : has_ended b ≡ false → called o b j ≡ entered o b j
  unfolding called
  called_open h = rw h

-- ---- counts and bound

pub record Counts {M : Type 0} (o : Options) (b : Book M) : Type 0 where
  pub counted : b.read ≡ b.empties + b.fews + b.scores
  pub bounded : b.bound ≤ o.most

lowered_le : (most k : ℕ) → lowered most k ≤ most
unfolding lowered
lowered_le most k = go (ltb most k) refl
  where
    go : (t : Bool) → ltb most k ≡ t → cond t most k ≤ most
    go true h = le_refl most
    go false h = ltb-false most k h

module _ {M : Type 0} (o : Options) where
  pub counts_fresh : Counts o (fresh {M = M} o)
  unfolding fresh
  counts_fresh = record { counted = refl; bounded = le_refl o.most }

  counts_entered : (b : Book M) (j : Judged M) → Counts o b → Counts o (entered o b j).book
  unfolding entered bound_after
  counts_entered b (turned_down k) c = c
  counts_entered b empty c = record { counted = omega arith; bounded = c.bounded }
  counts_entered b (few count) c = record { counted = omega arith; bounded = c.bounded }
  counts_entered b (scored s) c = record { counted = omega arith; bounded = lowered_le o.most (raised (suc b.read) s.stop) }

  pub counts_next : (b : Book M) (j : Judged M) → Counts o b → Counts o (called o b j).book
  counts_next b j c = go (has_ended b) refl
    where
      go : (t : Bool) → has_ended b ≡ t → Counts o (called o b j).book
      go true h = rw (called_late o b j h) c
      go false h = rw (called_open o b j h) (counts_entered b j c)

  pub counts_after : (calls : List (Judged M)) (b : Book M) → Counts o b → Counts o (book_after o b calls)
  unfolding book_after
  counts_after [] b c = c
  counts_after (j ∷ js) b c = counts_after js (called o b j).book (counts_next b j c)

  -- ---- the test of the end

  -- Before its bound the book has read fewer than max_iters, and so fewer than 100,000; and none of its counts exceeds what it has read.
  pub same_end : o.most ≤ 100000 → (b : Book M) → Counts o b → is_closed b ≡ has_ended b
  unfolding is_closed closed_at has_ended ended_at
  same_end small b c = go (leb b.bound b.read) refl
    where
      go : (t : Bool) → leb b.bound b.read ≡ t → is_closed b ≡ t
      go true h = rw h
      go false h =
          let l = leb-false b.bound b.read h in
          rw (h, lt-leb 100000 b.read (omega arith), le-ltb b.read b.empties (omega arith), le-ltb b.read b.fews (omega arith), le-ltb b.read b.scores (omega arith))

  pub tried-called : o.most ≤ 100000 → (b : Book M) (j : Judged M) → Counts o b → tried o b j ≡ called o b j
  unfolding tried called
  tried-called small b j c = rw (same_end small b c)

-- ---- the winner among the scored trials

-- every scored call has a clear rms
abbrev pub ClearCall : {M : Type 0} → Judged M → Type 0
ClearCall (turned_down k) = Unit {0}
ClearCall empty = Unit {0}
ClearCall (few count) = Unit {0}
ClearCall (scored s) = T (clear s.rms)

abbrev pub ClearCalls : {M : Type 0} → List (Judged M) → Type 0
ClearCalls [] = Unit {0}
ClearCalls (j ∷ js) = ClearCall j × ClearCalls js

-- es are the scored trials so far
pub record Ranked {M : Type 0} (b : Book M) (es : List Score) : Type 0 where
  pub numbered : (e : Score) → Among e es → e.number ≤ b.read
  pub clears : (e : Score) → Among e es → T (clear e.rms)
  pub picks : Picks b.winner es

module _ {M : Type 0} (o : Options) where
  pub ranked_fresh : Ranked (fresh {M = M} o) []
  unfolding fresh Picks
  ranked_fresh = record { numbered = λ e p. absurd (among_none p); clears = λ e p. absurd (among_none p); picks = refl }

  module _ (b : Book M) (es : List Score) (r : Ranked b es) where
    later-numbers : (e : Score) → Among e es → e.number ≤ suc b.read
    later-numbers e p = let l = r.numbered e p in omega arith

    ranked_empty : Ranked (entered o b empty).book es
    unfolding entered
    ranked_empty = record { numbered = later-numbers; clears = r.clears; picks = r.picks }

    ranked_few : (count : ℕ) → Ranked (entered o b (few count)).book es
    unfolding entered
    ranked_few count = record { numbered = later-numbers; clears = r.clears; picks = r.picks }

    ranked_scored : (s : Standing M) → T (clear s.rms) → Ranked (entered o b (scored s)).book (es ++ (score_at b.read s ∷ []))
    unfolding entered score_at
    ranked_scored s c = record {
      numbered = λ e p. ⊎_elim (later-numbers e) (λ q. let f = ap (λ (x : Score). x.number) q in omega arith) (among_last es p);
      clears = λ e p. ⊎_elim (r.clears e) (λ q. subst (λ (x : Score). T (clear x.rms)) (sym q) c) (among_last es p);
      picks = picks_next s b.winner es b.read r.picks r.numbered r.clears c;
    }

  -- held or won, the answer to a scored trial shows it
  score_seen : (s : Standing M) (before : Held M) (read : ℕ) (rest : List Outcome) → scores_in read (scored_answer s before ∷ rest) ≡ score_at read s ∷ scores_in (suc read) rest
  unfolding scored_answer scores_in score_at
  score_seen s before read rest = go (beats s before)
    where
      go : (t : Bool) → scores_in read (cond t (is_won s.count s.rms) (is_held s.count s.rms) ∷ rest) ≡ score_at read s ∷ scores_in (suc read) rest
      go true = refl
      go false = refl

  -- the calls to come, after those that scored es
  abbrev Reached : Book M → List Score → List (Judged M) → Type 0
  Reached b es calls = Ranked (book_after o b calls) (es ++ scores_in b.read (outcomes_of o b calls))

  module _ (js : List (Judged M)) (rest : (b : Book M) (es : List Score) → Ranked b es → Reached b es js) (b : Book M) (es : List Score) (r : Ranked b es) where
    reached_entered : (j : Judged M) → ClearCall j
        → Ranked (book_after o (entered o b j).book js) (es ++ scores_in b.read ((entered o b j).outcome ∷ outcomes_of o (entered o b j).book js))
    unfolding entered scores_in
    reached_entered (turned_down k) c = rest b es r
    reached_entered empty c = rest (entered o b empty).book es (ranked_empty b es r)
    reached_entered (few count) c = rest (entered o b (few count)).book es (ranked_few b es r count)
    reached_entered (scored s) c =
        let e = score_at b.read s in
        let more = outcomes_of o (entered o b (scored s)).book js in
        rw (score_seen s b.winner b.read more, ← append_assoc es (e ∷ []) (scores_in (suc b.read) more)) (rest (entered o b (scored s)).book (es ++ (e ∷ [])) (ranked_scored b es r s c))

    reached_next : (j : Judged M) → ClearCall j → Reached b es (j ∷ js)
    unfolding book_after outcomes_of scores_in
    reached_next j c = go (has_ended b) refl
      where
        go : (t : Bool) → has_ended b ≡ t → Reached b es (j ∷ js)
        go true h = rw (called_late o b j h) (rest b es r)
        go false h = rw (called_open o b j h) (reached_entered j c)

  ranked_after : (calls : List (Judged M)) → ClearCalls calls → (b : Book M) (es : List Score) → Ranked b es → Reached b es calls
  unfolding book_after outcomes_of scores_in
  ranked_after [] c b es r = rw (append-nil es) r
  ranked_after (j ∷ js) c b es r = reached_next js (ranked_after js c.1) b es r j c.0

  pub picked_after : (calls : List (Judged M)) → ClearCalls calls → Picks (book_after o (fresh o) calls).winner (scores_in 0 (outcomes_of o (fresh o) calls))
  unfolding fresh
  picked_after calls c = (ranked_after calls c (fresh o) [] ranked_fresh).picks
