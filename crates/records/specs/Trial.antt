-- Document 01, 'Trials', and document 02, order 5: a trial's record. Byte 0 fit mark, byte 1 refit mark, six zero bytes, the doubles of the fit, those of the
-- refit: nine each of a sheet, which is 152 bytes, or twelve each of a form, 200.
use Rattle.std.specs.Prelude.{Bool, not, cond, ◌&&◌, ◌||◌, List, [], ◌∷◌, map, ℕ, ◌+◌, ◌*◌, leb, eqb, length, get_or, take, drop, replicate, Float, Option, Some, None}
use Rattle.std.specs.Float.{binary64}
use Rattle.std.specs.Float.Ieee.{of_bits}
use Rattle.rule.specs.Refusal.{RECORD}
use Rattle.rule.specs.Answer.{Answer}
use Rattle.rule.specs.Order.{Test, first_failed, decided}
use Rattle.rule.specs.Lists.{every}
use Rattle.numbers.specs.Finite.{all_finite}
use Rattle.book.specs.Score.{Trial, unfitted, fitted, refitted}
use Rattle.fields.specs.Packing.{size_of, unpacked}
use Rattle.estimator.specs.Family.{Family}
use Rattle.estimator.specs.Numbers.{doubles_formed}
use Rattle.records.specs.declared.trial.Fitted.{Fitted}

-- ---- the marks and the numbers

-- A mark is 0 or 1, and a refit needs a fit.
unfoldable pub marks_formed : (fit refit : ℕ) → Bool
marks_formed fit refit = leb fit 1 && (leb refit 1 && (eqb fit 1 || not (eqb refit 1)))

-- Marked numbers are finite, unmarked ones zero bytes (so −0 is none).
unfoldable pub numbers_formed : (mark : Bool) → (bits : List ℕ) → Bool
numbers_formed mark bits = cond mark (all_finite (map (of_bits binary64) bits)) (every (λ b. eqb b 0) bits)

-- two marks, the numbers of a fit and those of a refit, from which a record can be made
unfoldable pub parts_formed : (fit_mark refit_mark : ℕ) → (fit refit : List Float) → Bool
parts_formed a b fit refit = marks_formed a b && (doubles_formed (eqb a 1) fit && doubles_formed (eqb b 1) refit)

-- ---- what stands in the fields

-- the mark in the field at place i is set
unfoldable pub marked : (fields : List ℕ) → ℕ → Bool
marked f i = eqb (get_or f i 0) 1

-- by the size of a candidate: how many numbers it has
module _ (size : ℕ) where
  unfoldable pub trial_layout : List ℕ
  trial_layout = 1 ∷ 1 ∷ 6 ∷ replicate (2 * size) 8

  -- the bits of the fit's numbers, and of the refit's
  unfoldable pub fit_bits : (fields : List ℕ) → List ℕ
  fit_bits f = take size (drop 3 f)

  unfoldable pub refit_bits : (fields : List ℕ) → List ℕ
  refit_bits f = take size (drop (3 + size) f)

  -- the marks, the filler, the numbers of the fit and those of the refit
  unfoldable pub trial_sound : (fields : List ℕ) → Bool
  trial_sound f =
      marks_formed (get_or f 0 0) (get_or f 1 0)
      && (eqb (get_or f 2 0) 0
      && (numbers_formed (marked f 0) (fit_bits f)
      && numbers_formed (marked f 1) (refit_bits f)))

  -- ---- the record

  -- the length, and the fields
  unfoldable pub trial_formed : List ℕ → Bool
  trial_formed l = eqb (length l) (size_of trial_layout) && trial_sound (unpacked trial_layout l)

  -- 1
  unfoldable pub trial_record : List ℕ → Test
  trial_record l = record { fails = not (trial_formed l); number = RECORD }

-- by the family, which says what the numbers of a candidate make
module _ {E M K : Type 0} (family : Family E M K) where
  unfoldable pub model_from : (bits : List ℕ) → M
  model_from bits = family.model_of (map (of_bits binary64) bits)

  unfoldable pub trial_from : (fields : List ℕ) → Trial M
  trial_from f =
      cond (marked f 1) (refitted (model_from (fit_bits family.size f)) (model_from (refit_bits family.size f)))
      (cond (marked f 0) (fitted (model_from (fit_bits family.size f))) unfitted)

  unfoldable pub trial_of : List ℕ → Trial M
  trial_of l = trial_from (unpacked (trial_layout family.size) l)

  unfoldable pub trial_answer : List ℕ → Answer (Trial M)
  trial_answer l = decided (first_failed (trial_record family.size l ∷ [])) (trial_of l)

-- ---- what the code's trial stands for

-- a fit and, where there is one, its refit
abbrev pub refitted_by : {M : Type 0} → M → Option M → Trial M
refitted_by fit None = fitted fit
refitted_by fit (Some refit) = refitted fit refit

abbrev pub view_recorded : {M : Type 0} → Option (Fitted M) → Trial M
view_recorded None = unfitted
view_recorded (Some t) = refitted_by t.fit t.refit
