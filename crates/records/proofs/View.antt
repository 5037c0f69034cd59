-- What the reader of a trial answers is fixed by a contract on its view: the view tells any two answers apart. Assumes nothing.
use mathlib.Core.Path.{◌≡◌, refl}
use Rattle.std.specs.Prelude.{Option, Some, None}
use Rattle.rule.specs.Answer.{OneAnswer}
use Rattle.rule.proofs.Views.{told_one}
use Rattle.book.specs.Score.{Trial, unfitted, fitted, refitted}
use Rattle.records.specs.Trial.{refitted_by, view_recorded}
use Rattle.records.specs.declared.trial.Fitted.{Fitted}

module _ {M : Type 0} where
  recorded_of : Trial M → Option (Fitted M)
  recorded_of unfitted = None
  recorded_of (fitted m) = Some (record { fit = m; refit = None })
  recorded_of (refitted m n) = Some (record { fit = m; refit = Some n })

  recorded_back : (x : Option (Fitted M)) → recorded_of (view_recorded x) ≡ x
  unfolding recorded_of
  recorded_back None = refl
  recorded_back (Some t) = go t.refit
    where
      go : (r : Option M) → recorded_of (refitted_by t.fit r) ≡ Some (record { fit = t.fit; refit = r })
      go None = refl
      go (Some n) = refl

  pub recorded_one : OneAnswer (view_recorded {M = M})
  recorded_one = told_one view_recorded recorded_of recorded_back
