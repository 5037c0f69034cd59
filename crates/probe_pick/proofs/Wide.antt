-- How many words a trial's answer has. Assumes nothing.
use mathlib.Core.Path.{◌≡◌, refl, ap, ap₂, ◌∙◌}
use mathlib.Core.Bool.{Bool, true, false, cond}
use mathlib.Core.List.{List, [], ◌∷◌, ◌++◌}
use Prim.Native.Nat.{ℕ, ◌+◌, ◌<◌}
use borrow.Author.Tests.{lt-ltb}
use lib.Dec.{ltb}
use lib.ListN.{length, replicate, length-append, length-replicate}
use Rattle.rule.specs.Lists.{filled}
use Rattle.rule.proofs.Lists.{filled_not}
use Rattle.sheet.specs.Distance.{model_numbers}
use Rattle.sheet.specs.Sheets.{sheet}
use Rattle.sheet.specs.declared.model.Model.{Model}
use Rattle.sheet.specs.declared.model.Sheet.{Sheet}
use Rattle.book.specs.Book.{Held, none, held, Outcome, is_refused, is_empty, is_few, is_held, is_won}
use Rattle.pick.specs.Run.{Run, Answer}
use Rattle.words.specs.Words.{option_words, ratio_word, count_words, winner_words, run_words, outcome_words, told_words, tried_words}
use Rattle.words.specs.Calls.{tried_after}
use Rattle.probe_pick.specs.Words.{state_words, answer_words}

front_wide : (r : Run Sheet Model) → length (option_words r.options ++ count_words r) ≡ 11
front_wide r = refl

winner_wide : (best : Held Model) → length (winner_words sheet best) ≡ 13
unfolding winner_words model_numbers
winner_wide none = length-replicate {A = ℕ} 13 0
winner_wide (held w) = refl

held_wide : (r : Run Sheet Model) → length (option_words r.options ++ count_words r ++ winner_words sheet r.book.winner) ≡ 24
held_wide r = length-append (option_words r.options ++ count_words r) (winner_words sheet r.book.winner) ∙ ap₂ (λ a b. a + b) (front_wide r) (winner_wide r.book.winner)

pub run_wide : (r : Run Sheet Model) → length (state_words r) ≡ 25
unfolding run_words
run_wide r =
    let held = option_words r.options ++ count_words r ++ winner_words sheet r.book.winner in
    length-append (held ++ ratio_word r.options) [] ∙ ap (λ n. n + 0) (length-append held (ratio_word r.options) ∙ ap (λ n. n + 1) (held_wide r))

told_wide : (o : Outcome) (beyond : ℕ) → length (outcome_words o ++ (beyond ∷ [])) ≡ 4
told_wide (is_refused k) beyond = refl
told_wide is_empty beyond = refl
told_wide (is_few count) beyond = refl
told_wide (is_held count rms) beyond = refl
told_wide (is_won count rms) beyond = refl

pub tried_wide : (t : Answer Sheet Model) → length (answer_words t) ≡ 29
unfolding tried_words
tried_wide t = length-append (state_words t.run) (told_words t) ∙ ap₂ (λ a b. a + b) (run_wide t.run) (told_wide t.outcome t.beyond)

-- a list without a place for each stays
pub no_room : (t : Answer Sheet Model) (state entry : List ℕ) → length entry < 29 → entry ≡ tried_after 25 state (answer_words t) entry
no_room t state entry h = go (ltb (length state) 25)
  where
    go : (b : Bool) → entry ≡ cond b entry (filled (answer_words t) entry)
    go true = refl
    go false = filled_not (answer_words t) entry (rw (tried_wide t) h)

-- and one that is lent beside too few words
pub no_state : (words state entry : List ℕ) → length state < 25 → entry ≡ tried_after 25 state words entry
no_state words state entry h = rw (lt-ltb (length state) 25 h)
