-- The three kinds of record that are written: options, and of a sheet a mark and a trial. Doubles stand in the fields by their bits.
use Rattle.std.specs.Prelude.{◌≡◌, not, cond, ◌&&◌, List, [], ◌∷◌, ◌++◌, map, ℕ, ◌<◌, T, eqb, length, get_or, replicate, Float}
use Rattle.std.specs.Float.{binary64}
use Rattle.std.specs.Float.Ieee.{fits, of_bits, to_bits}
use Rattle.rule.specs.Refusal.{RECORD, SHAPE}
use Rattle.rule.specs.Order.{Test}
use Rattle.rule.specs.Lists.{every}
use Rattle.numbers.specs.Constants.{zero'}
use Rattle.estimator.specs.Marks.{point}
use Rattle.sheet.specs.Marks.{mark_numbers}
use Rattle.sheet.specs.Distance.{model_numbers}
use Rattle.sheet.specs.Sheets.{sheet}
use Rattle.sheet.specs.declared.marks.Mark.{Mark}
use Rattle.sheet.specs.declared.model.Model.{Model}
use Rattle.book.specs.Score.{Trial, unfitted, fitted, refitted}
use Rattle.records.specs.Options.{options_layout, options_sound, options_from, options_tests}
use Rattle.records.specs.Trial.{trial_layout, trial_sound, trial_from}
use Rattle.records.specs.declared.options.RansacOptions.{RansacOptions}
use Rattle.writer.specs.Format.{Format}

-- a number that 64 bits hold
abbrev Double : Float → Type 0
Double x = T (fits binary64 x)

-- ---- options: 1, 2, 3, 4, 16. The format is that of 40 bytes alone.

pub record OptionNumbers : Type 0 where
  pub thresh : Float
  pub confidence : Float
  pub max_iters : ℕ
  pub min_inliers : ℕ
  -- a byte
  pub refit_mark : ℕ
  pub ratio : Float

unfoldable pub options_numbers : RansacOptions → OptionNumbers
options_numbers o =
    record {
      thresh = o.thresh;
      confidence = o.confidence;
      max_iters = o.max_iters;
      min_inliers = o.min_inliers;
      refit_mark = cond o.refit 1 0;
      ratio = o.ratio;
    }

unfoldable pub options_fields : OptionNumbers → List ℕ
options_fields n =
    to_bits binary64 n.thresh ∷ to_bits binary64 n.confidence ∷ n.max_iters ∷ n.min_inliers ∷ n.refit_mark ∷ 0 ∷ to_bits binary64 n.ratio ∷ []

unfoldable pub OptionsRepresentable : OptionNumbers → Type 0
OptionsRepresentable n =
    Double n.thresh × Double n.confidence × (n.max_iters < 0x1_0000_0000) × (n.min_inliers < 0x1_0000_0000) × (n.refit_mark < 256) × Double n.ratio

unfoldable pub options_asked : List ℕ → List Test
options_asked f = record { fails = not (options_sound f); number = RECORD } ∷ options_tests (options_from f)

unfoldable pub options_format : Format OptionNumbers RansacOptions
options_format =
    record {
      layout = options_layout;
      other_length = RECORD;
      tests = options_asked;
      value = options_from;
      numbers = options_numbers;
      fields = options_fields;
      asks = λ n. [];
      Representable = OptionsRepresentable;
    }

-- ---- a mark: 6. Its reader takes a list of marks; here it has one, and any other length is 5. One mark by itself has nothing to clash with, so 18 is never its number.

unfoldable pub mark_layout : List ℕ
mark_layout = replicate 4 8

unfoldable pub mark_from : (fields : List ℕ) → Mark
mark_from f =
    record {
      x = of_bits binary64 (get_or f 0 0);
      y = of_bits binary64 (get_or f 1 0);
      u = of_bits binary64 (get_or f 2 0);
      v = of_bits binary64 (get_or f 3 0);
    }

unfoldable pub MarkRepresentable : Mark → Type 0
MarkRepresentable m = T (every (fits binary64) (mark_numbers m))

unfoldable pub mark_format : Format Mark Mark
mark_format =
    record {
      layout = mark_layout;
      other_length = SHAPE;
      tests = λ f. point (map (of_bits binary64) f) ∷ [];
      value = mark_from;
      numbers = λ m. m;
      fields = λ m. map (to_bits binary64) (mark_numbers m);
      asks = λ m. [];
      Representable = MarkRepresentable;
    }

-- ---- a trial: 1

pub record TrialNumbers : Type 0 where
  -- bytes
  pub fit_mark : ℕ
  pub refit_mark : ℕ
  -- nine each
  pub fit : List Float
  pub refit : List Float

-- what stands where nothing is marked
abbrev nothing : List Float
nothing = replicate 9 zero'

unfoldable pub trial_numbers : Trial Model → TrialNumbers
trial_numbers unfitted = record { fit_mark = 0; refit_mark = 0; fit = nothing; refit = nothing }
trial_numbers (fitted m) = record { fit_mark = 1; refit_mark = 0; fit = model_numbers m; refit = nothing }
trial_numbers (refitted m k) = record { fit_mark = 1; refit_mark = 1; fit = model_numbers m; refit = model_numbers k }

unfoldable pub trial_fields : TrialNumbers → List ℕ
trial_fields n = n.fit_mark ∷ n.refit_mark ∷ 0 ∷ (map (to_bits binary64) n.fit ++ map (to_bits binary64) n.refit)

-- 1: not nine numbers each. Eight and ten would fill the record as well, each in the other's place.
unfoldable pub nine_each : TrialNumbers → Test
nine_each n = record { fails = not (eqb (length n.fit) 9 && eqb (length n.refit) 9); number = RECORD }

unfoldable pub TrialRepresentable : TrialNumbers → Type 0
TrialRepresentable n =
    (n.fit_mark < 256) × (n.refit_mark < 256) × (length n.fit ≡ 9) × (length n.refit ≡ 9) × T (every (fits binary64) n.fit) × T (every (fits binary64) n.refit)

unfoldable pub trial_format : Format TrialNumbers (Trial Model)
trial_format =
    record {
      layout = trial_layout 9;
      other_length = RECORD;
      tests = λ f. record { fails = not (trial_sound 9 f); number = RECORD } ∷ [];
      value = trial_from sheet;
      numbers = trial_numbers;
      fields = trial_fields;
      asks = λ n. nine_each n ∷ [];
      Representable = TrialRepresentable;
    }
