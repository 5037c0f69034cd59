-- The number by which a call is refused, read off what it answers. Assumes nothing.
use mathlib.Core.Path.{◌≡◌, refl, sym, ap, ◌∙◌}
use lib.Ieee.{Float}
use Rattle.std.specs.Prelude.{ℕ, zero, suc, length, List, Result, Ok, Err}
use Rattle.rule.specs.declared.Refusal.{Refusal}
use Rattle.rule.specs.Answer.{Answer, told, answered, refusal_in}
use Rattle.rule.specs.Order.{first_failed, decided}
use Rattle.rule.proofs.Order.{decided-gives, decided-refused}
use Rattle.estimator.specs.Family.{Family}
use Rattle.sheet.specs.declared.model.Model.{Model}
use Rattle.book.specs.Book.{Winner}
use Rattle.book.specs.Calls.{number_in}
use Rattle.judge.specs.Judging.{Call}
use Rattle.pick.specs.Run.{Run, view_outcome, view_tried}
use Rattle.pick.specs.Trial.{trial_answer}
use Rattle.pick.specs.Indices.{indices_answer}
use Rattle.pick.specs.declared.run_state.Tried.{Tried}
use Rattle.salghemu.specs.Whole.{Files, run_tests, run_answer, after_tests, number_of}
use Rattle.orders.specs.ShortFirst.{trial_order, indices_order, RefusedBy}
use Rattle.orders.proofs.Shorter.{trial_number, indices_number}

pub told_number : {A B : Type 0} (view : A → B) (r : Result A Refusal) (k : ℕ) (b : B) → told view r ≡ decided k b → refusal_in r ≡ k
told_number view (Ok a) k b h = sym (decided-gives k h).0
told_number view (Err e) k b h = (decided-refused k b h).0

pub answered_number : {A : Type 0} (r : Result A Refusal) (k : ℕ) (a : A) → answered r ≡ decided k a → refusal_in r ≡ k
answered_number (Ok b) = told_number (λ a. a) (Ok b)
answered_number (Err e) = told_number (λ a. a) (Err e)

module _ {E M K : Type 0} (f : Family E M K) (r : Run E M) where
  pub trial_refused : (c : Call) (t : Tried E M) → view_tried t ≡ trial_answer f r c → number_in (view_outcome t.outcome) ≡ first_failed (trial_order f r c)
  trial_refused c t h = ap (λ x. number_in x.outcome) h ∙ trial_number f r c

  pub indices_refused : (marks : List Float) (entry : List ℕ) (a : Result ℕ Refusal) → answered a ≡ indices_answer f r marks entry → refusal_in a ≡ first_failed (indices_order f r marks (length entry))
  indices_refused marks entry a h = let by = indices_number f r marks entry in answered_number a (first_failed (indices_order f r marks (length entry))) by.0 (h ∙ by.1)

pub run_refused : (f : Files) (winner indices r : ℕ) → r ≡ number_of (run_answer f winner indices) → RefusedBy (run_tests f winner indices) r
unfolding run_answer after_tests number_of
run_refused f winner indices r h some = go (first_failed (run_tests f winner indices)) _ h some
  where
    go : (k : ℕ) (x : Answer (Winner Model)) → r ≡ number_of (after_tests k x) → (k ≡ 0 → ⊥) → r ≡ k
    go zero x e s = absurd (s refl)
    go (suc k) x e s = e
