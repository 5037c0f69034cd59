-- From the case of an answer's enum to what it stands for: what is read off the case is what is read off the answer. Assumes nothing.
use mathlib.Core.Path.{◌≡◌, refl, sym, ap, ◌∙◌}
use native.Mathlib.Omega.{arith}
use Rattle.std.specs.Prelude.{ℕ, Result, Ok, Err, List, [], ◌∷◌, get_or}
use Rattle.rule.specs.declared.Refusal.{Refusal}
use Rattle.rule.specs.declared.Refusal.TheVariants as Refusals
use Rattle.rule.specs.Refusal.{number_of}
use Rattle.rule.specs.Answer.{Answer, refused, gives, told, answered}

-- A view that can be taken back tells any two values apart, so a contract on the view fixes the value.
pub told_apart : {E A : Type 0} (view : E → A) (back : A → E) → ((x : E) → back (view x) ≡ x) → (x y : E) → view x ≡ view y → x ≡ y
told_apart view back undone x y h = sym (undone x) ∙ ap back h ∙ undone y

-- ---- the code's `Result`: the numbers tell the refusals apart, and so an answer's view is that of one answer alone

-- from 0, which is no refusal's number
in-order : List Refusal
in-order =
    Refusals.Record
    ∷ Refusals.Record
    ∷ Refusals.Thresh
    ∷ Refusals.Confidence
    ∷ Refusals.Iters
    ∷ Refusals.Shape
    ∷ Refusals.Point
    ∷ Refusals.Few
    ∷ Refusals.Stops
    ∷ Refusals.Room
    ∷ Refusals.Ended
    ∷ Refusals.NoWinner
    ∷ Refusals.Spread
    ∷ Refusals.SheetLine
    ∷ Refusals.PixelLine
    ∷ Refusals.Number
    ∷ Refusals.Ratio
    ∷ Refusals.Camera
    ∷ Refusals.Double
    ∷ Refusals.Narrow
    ∷ Refusals.Path
    ∷ Refusals.Plan
    ∷ Refusals.Ladder
    ∷ Refusals.Triangle
    ∷ []

refusal_of : ℕ → Refusal
refusal_of k = get_or in-order k Refusals.Record

numbered : (e : Refusal) → refusal_of (number_of e) ≡ e
unfolding refusal_of in-order
numbered Refusals.Record = refl
numbered Refusals.Thresh = refl
numbered Refusals.Confidence = refl
numbered Refusals.Iters = refl
numbered Refusals.Shape = refl
numbered Refusals.Point = refl
numbered Refusals.Few = refl
numbered Refusals.Stops = refl
numbered Refusals.Room = refl
numbered Refusals.Ended = refl
numbered Refusals.NoWinner = refl
numbered Refusals.Spread = refl
numbered Refusals.SheetLine = refl
numbered Refusals.PixelLine = refl
numbered Refusals.Number = refl
numbered Refusals.Ratio = refl
numbered Refusals.Camera = refl
numbered Refusals.Double = refl
numbered Refusals.Narrow = refl
numbered Refusals.Path = refl
numbered Refusals.Plan = refl
numbered Refusals.Ladder = refl
numbered Refusals.Triangle = refl

-- 0 is no refusal's number
pub number_above_0 : {A : Type 0} (e : Refusal) → number_of e ≡ 0 → A
number_above_0 Refusals.Record h = absurd (omega (arith, h))
number_above_0 Refusals.Thresh h = absurd (omega (arith, h))
number_above_0 Refusals.Confidence h = absurd (omega (arith, h))
number_above_0 Refusals.Iters h = absurd (omega (arith, h))
number_above_0 Refusals.Shape h = absurd (omega (arith, h))
number_above_0 Refusals.Point h = absurd (omega (arith, h))
number_above_0 Refusals.Few h = absurd (omega (arith, h))
number_above_0 Refusals.Stops h = absurd (omega (arith, h))
number_above_0 Refusals.Room h = absurd (omega (arith, h))
number_above_0 Refusals.Ended h = absurd (omega (arith, h))
number_above_0 Refusals.NoWinner h = absurd (omega (arith, h))
number_above_0 Refusals.Spread h = absurd (omega (arith, h))
number_above_0 Refusals.SheetLine h = absurd (omega (arith, h))
number_above_0 Refusals.PixelLine h = absurd (omega (arith, h))
number_above_0 Refusals.Number h = absurd (omega (arith, h))
number_above_0 Refusals.Ratio h = absurd (omega (arith, h))
number_above_0 Refusals.Camera h = absurd (omega (arith, h))
number_above_0 Refusals.Double h = absurd (omega (arith, h))
number_above_0 Refusals.Narrow h = absurd (omega (arith, h))
number_above_0 Refusals.Path h = absurd (omega (arith, h))
number_above_0 Refusals.Plan h = absurd (omega (arith, h))
number_above_0 Refusals.Ladder h = absurd (omega (arith, h))
number_above_0 Refusals.Triangle h = absurd (omega (arith, h))

module _ {A B : Type 0} (view : A → B) (back : B → A) (undone : (a : A) → back (view a) ≡ a) where
  result_of : Answer B → Result A Refusal
  result_of (gives b) = Ok (back b)
  result_of (refused k) = Err (refusal_of k)

  result_undone : (r : Result A Refusal) → result_of (told view r) ≡ r
  unfolding result_of
  result_undone (Ok a) = ap Ok (undone a)
  result_undone (Err e) = ap Err (numbered e)

  pub told_one : (r s : Result A Refusal) → told view r ≡ told view s → r ≡ s
  told_one = told_apart (told view) result_of result_undone

pub answered_one : {A : Type 0} (r s : Result A Refusal) → answered r ≡ answered s → r ≡ s
answered_one {A = A} r s h = told_one (λ a. a) (λ a. a) (λ a. refl) r s (sym (same r) ∙ h ∙ same s)
  where
    same : (r : Result A Refusal) → answered r ≡ told (λ a. a) r
    same (Ok a) = refl
    same (Err e) = refl
