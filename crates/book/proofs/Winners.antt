-- One scored trial more: the winner of a list of scored trials, and that of the same list with another at its end. Assumes nothing.
use mathlib.Core.Path.{◌≡◌, refl, sym, subst, ap, ◌∙◌}
use mathlib.Core.Bool.{Bool, true, false, ◌&&◌, ◌||◌, cond}
use mathlib.Core.Logic.{◌⊎◌, inl, inr, ⊎_elim}
use mathlib.Core.List.{List, [], ◌∷◌, ◌++◌}
use Prim.Native.Nat.{ℕ, suc, ◌≤◌, ◌<◌}
use native.Mathlib.Omega.{arith}
use borrow.Author.Tests.{ltb-true, ltb-false, eqb-true, eqb-false}
use lib.Dec.{T, ltb, eqb}
use lib.Ieee.{lt, le}
use Rattle.book.specs.Score.{Standing}
use Rattle.book.specs.Book.{Held, none, held, is_better, beats, winner_after}
use Rattle.book.specs.Rule.{Score, Among, first, later, score_of, Behind, Best, Picks}
use Rattle.rule.specs.Arith.{clear}
use Rattle.book.proofs.ClearOrder.{le_same, lt_le, not_lt, lt_not_eq, lt_le_trans}

-- ---- what is in a list with one more at its end

module _ {A : Type 0} where
  among_cons : {x a : A} {l : List A} → Among x (a ∷ l) → (x ≡ a) ⊎ Among x l
  among_cons first = inl refl
  among_cons (later p) = inr p

  pub among_none : {x : A} → Among x [] → ⊥
  among_none p = elim p [ ]

  pub among_last : (l : List A) {x a : A} → Among x (l ++ (a ∷ [])) → Among x l ⊎ (x ≡ a)
  among_last [] p = ⊎_elim (λ e. inr e) (λ q. absurd (among_none q)) (among_cons p)
  among_last (b ∷ l) p = ⊎_elim (λ e. inl (subst (λ y. Among y (b ∷ l)) (sym e) first)) (λ q. ⊎_elim (λ r. inl (later r)) (λ e. inr e) (among_last l q)) (among_cons p)

  among_before : (a : A) {x : A} {l : List A} → Among x l → Among x (l ++ (a ∷ []))
  among_before a first = first
  among_before a (later p) = later (among_before a p)

  among_end : (l : List A) {a : A} → Among a (l ++ (a ∷ []))
  among_end [] = first
  among_end (b ∷ l) = later (among_end l)

-- ---- the winner w of es, and the trial e that comes next

alone : (e : Score) → Best e (e ∷ [])
alone e = record {
  own = first;
  single = λ x p n. ⊎_elim (λ q. absurd (among_none q)) (λ q. q) (among_last [] p);
  others = λ x p n. ⊎_elim (λ q. absurd (among_none q)) (λ q. absurd (n (ap (λ y. y.number) q))) (among_last [] p);
}

module _ (w e : Score) (es : List Score) (read : ℕ) (best : Best w es) (new : e.number ≡ suc read)
    (numbered : (x : Score) → Among x es → x.number ≤ read) (clears : (x : Score) → Among x es → T (clear x.rms)) (clear-e : T (clear e.rms)) where
  w_clear : T (clear w.rms)
  w_clear = clears w best.own

  behind : e.count ≤ w.count → (e.count ≡ w.count → lt e.rms w.rms ≡ false) → Behind w e
  behind few wide = record { fewer = few; wider = λ q. not_lt e.rms w.rms clear-e w_clear (wide q); later = λ q r. let l = numbered w best.own in omega arith }

  stays : e.count ≤ w.count → (e.count ≡ w.count → lt e.rms w.rms ≡ false) → Best w (es ++ (e ∷ []))
  stays few wide = record {
    own = among_before e best.own;
    single = λ x p n.
        ⊎_elim (λ q. best.single x q n) (λ q. absurd (let l = numbered w best.own in let f = ap (λ (y : Score). y.number) q in omega arith)) (among_last es p);
    others = λ x p n. ⊎_elim (λ q. best.others x q n) (λ q. subst (Behind w) (sym q) (behind few wide)) (among_last es p);
  }

  -- w itself included
  none-wider : (x : Score) → Among x es → (x.count ≤ w.count) × (x.count ≡ w.count → T (le w.rms x.rms))
  none-wider x p = go (eqb x.number w.number) refl
    where
      go : (b : Bool) → eqb x.number w.number ≡ b → (x.count ≤ w.count) × (x.count ≡ w.count → T (le w.rms x.rms))
      go true h =
          let s = best.single x p (eqb-true x.number w.number h) in
          let c = ap (λ (y : Score). y.count) s in
          (omega arith, λ q. subst (λ (y : Score). T (le w.rms y.rms)) (sym s) (le_same w.rms w_clear))
      go false h = let b = best.others x p (eqb-false x.number w.number h) in (b.fewer, b.wider)

  more-marks : w.count < e.count → (x : Score) → Among x es → Behind e x
  more-marks h x p =
      let c = (none-wider x p).0 in
      record { fewer = omega arith; wider = λ q. absurd (omega arith); later = λ q r. absurd (omega arith) }

  closer : e.count ≡ w.count → lt e.rms w.rms ≡ true → (x : Score) → Among x es → Behind e x
  closer same h x p =
      let c = none-wider x p in
      let l : x.count ≡ w.count → lt e.rms x.rms ≡ true = λ q. lt_le_trans e.rms w.rms x.rms clear-e w_clear (clears x p) h (c.1 q) in
      record {
        fewer = let f = c.0 in omega arith;
        wider = λ q. lt_le e.rms x.rms (l (q ∙ same));
        later = λ q r. absurd (lt_not_eq e.rms x.rms clear-e (clears x p) (l (q ∙ same)) r);
      }

  takes : ((x : Score) → Among x es → Behind e x) → Best e (es ++ (e ∷ []))
  takes over = record {
    own = among_end es;
    single = λ x p n. ⊎_elim (λ q. absurd (let l = numbered x q in omega arith)) (λ q. q) (among_last es p);
    others = λ x p n. ⊎_elim (λ q. over x q) (λ q. absurd (n (ap (λ (y : Score). y.number) q))) (among_last es p);
  }

-- ---- the book's winner after a scored trial

unfoldable pub score_at : {M : Type 0} → ℕ → Standing M → Score
score_at read s = record { number = suc read; count = s.count; rms = s.rms }

pub picks_next : {M : Type 0} (s : Standing M) (before : Held M) (es : List Score) (read : ℕ) → Picks before es
    → ((x : Score) → Among x es → x.number ≤ read) → ((x : Score) → Among x es → T (clear x.rms)) → T (clear s.rms)
    → Picks (winner_after s (suc read) before) (es ++ (score_at read s ∷ []))
unfolding Picks winner_after beats is_better score_of score_at
picks_next s none es read p numbered clears c = subst (λ l. Best (score_at read s) (l ++ (score_at read s ∷ []))) (sym p) (alone (score_at read s))
picks_next {M} s (held w) es read p numbered clears c = go (ltb w.count s.count) refl (eqb s.count w.count) refl (lt s.rms w.rms) refl
  where
    go : (a : Bool) → ltb w.count s.count ≡ a → (b : Bool) → eqb s.count w.count ≡ b → (d : Bool) → lt s.rms w.rms ≡ d
        → Picks (cond (a || (b && d)) (held (record { model = s.model; count = s.count; rms = s.rms; number = suc read })) (held w)) (es ++ (score_at read s ∷ []))
    go true f b g d h = takes (score_of w) (score_at read s) es read p refl numbered clears c (more-marks (score_of w) (score_at read s) es read p refl numbered clears c (ltb-true w.count s.count f))
    go false f true g true h = takes (score_of w) (score_at read s) es read p refl numbered clears c (closer (score_of w) (score_at read s) es read p refl numbered clears c (eqb-true s.count w.count g) h)
    go false f true g false h = stays (score_of w) (score_at read s) es read p refl numbered clears c (ltb-false w.count s.count f) (λ q. h)
    go false f false g d h = stays (score_of w) (score_at read s) es read p refl numbered clears c (ltb-false w.count s.count f) (λ q. absurd (eqb-false s.count w.count g q))
