-- The whole run over judged calls, one call at a time: at the bound, at a refused trial, and past any other. Assumes nothing.
use mathlib.Core.Path.{◌≡◌, refl}
use mathlib.Core.Bool.{Bool, true, false, cond}
use mathlib.Core.List.{List, [], ◌∷◌}
use Rattle.rule.proofs.Tests.{clash}
use Rattle.book.specs.Score.{Options, Standing, Judged, turned_down, empty, few, scored}
use Rattle.book.specs.Book.{Held, Book, is_won, is_held, beats, scored_answer, entered, has_ended}
use Rattle.book.specs.Calls.{is_refusal, number_in}
use Rattle.book.specs.Rule.{stopped, broken, run_over}

module _ {M : Type 0} (o : Options) (b : Book M) where
  pub run_out : (js : List (Judged M)) → js ≡ [] → stopped b ≡ run_over o b js
  unfolding run_over
  run_out js e = rw e

  pub run_late : has_ended b ≡ true → (js : List (Judged M)) → stopped b ≡ run_over o b js
  unfolding run_over
  run_late h [] = refl
  run_late h (turned_down k ∷ js) = rw h
  run_late h (empty ∷ js) = rw h
  run_late h (few count ∷ js) = rw h
  run_late h (scored s ∷ js) = rw h

  module _ (open-still : has_ended b ≡ false) (js : List (Judged M)) where
    pub run_on : (j : Judged M) → is_refusal (entered o b j).outcome ≡ false → run_over o b (j ∷ js) ≡ run_over o (entered o b j).book js
    unfolding run_over entered is_refusal
    run_on (turned_down k) h = clash refl h
    run_on empty h = rw open-still
    run_on (few count) h = rw open-still
    run_on (scored s) h = rw open-still

    scored_answer_lem : (s : Standing M) (before : Held M) → is_refusal (scored_answer s before) ≡ true → ⊥
    unfolding scored_answer is_refusal
    scored_answer_lem s before h = go (beats s before) h
      where
        go : (t : Bool) → is_refusal (cond t (is_won s.count s.rms) (is_held s.count s.rms)) ≡ true → ⊥
        go true e = clash e refl
        go false e = clash e refl

    pub run-broken : (j : Judged M) → is_refusal (entered o b j).outcome ≡ true → broken (number_in (entered o b j).outcome) ≡ run_over o b (j ∷ js)
    unfolding run_over entered is_refusal number_in
    run-broken (turned_down k) h = rw open-still
    run-broken empty h = clash h refl
    run-broken (few count) h = clash h refl
    run-broken (scored s) h = absurd (scored_answer_lem s b.winner h)
