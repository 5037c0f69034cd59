-- Document 01, 'Options', and document 02, order 3: the record, of 40 bytes or of 32 without a row ratio, the maker from the threshold alone, and the tests
-- 2, 3, 4 and 16.
use Rattle.std.specs.Prelude.{Bool, true, not, cond, ◌&&◌, ◌||◌, List, [], ◌∷◌, ◌++◌, ℕ, ltb, leb, eqb, length, get_or, drop, Float}
use Rattle.std.specs.Float.{binary64}
use Rattle.std.specs.Float.Ieee.{of_bits, lt}
use Rattle.rule.specs.Refusal.{RECORD, THRESH, CONFIDENCE, ITERS}
use Rattle.rule.specs.Answer.{Answer, refused, gives}
use Rattle.rule.specs.Order.{Test, first_failed, decided}
use Rattle.numbers.specs.Constants.{zero', one, usual_confidence}
use Rattle.numbers.specs.Finite.{is_finite}
use Rattle.numbers.specs.Ratio.{ratio}
use Rattle.fields.specs.Fields.{double_bytes}
use Rattle.fields.specs.Packing.{size_of, unpacked}
use Rattle.records.specs.declared.options.RansacOptions.{RansacOptions}

-- ---- the record

-- thresh (f64), confidence (f64), max_iters (u32), min_inliers (u32), refit mark, seven zero bytes: the record from before the ratio
unfoldable pub short_layout : List ℕ
short_layout = 8 ∷ 8 ∷ 4 ∷ 4 ∷ 1 ∷ 7 ∷ []

-- the same, and the ratio (f64)
unfoldable pub options_layout : List ℕ
options_layout = short_layout ++ (8 ∷ [])

-- which of the two a record of this length has
unfoldable pub layout_by : (length : ℕ) → List ℕ
layout_by n = cond (eqb n (size_of short_layout)) short_layout options_layout

unfoldable pub fields_in : List ℕ → List ℕ
fields_in l = unpacked (layout_by (length l)) l

-- whether a mark byte is set; 1 where it is neither 0 nor 1
abbrev pub mark_answer : ℕ → Answer Bool
mark_answer mark = cond (leb mark 1) (gives (eqb mark 1)) (refused RECORD)

-- of what stands in the fields: the refit mark is 0 or 1, and zero bytes follow
unfoldable pub options_sound : (fields : List ℕ) → Bool
options_sound f = leb (get_or f 4 0) 1 && eqb (get_or f 5 0) 0

-- a record that has no ratio has 1
unfoldable pub ratio_from : (fields : List ℕ) → Float
ratio_from [] = one
ratio_from (bits ∷ rest) = of_bits binary64 bits

unfoldable pub options_from : (fields : List ℕ) → RansacOptions
options_from f =
    record {
      thresh = of_bits binary64 (get_or f 0 0);
      confidence = of_bits binary64 (get_or f 1 0);
      max_iters = get_or f 2 0;
      min_inliers = get_or f 3 0;
      refit = eqb (get_or f 4 0) 1;
      ratio = ratio_from (drop 6 f);
    }

-- the length, and the fields
unfoldable pub options_formed : List ℕ → Bool
options_formed l = eqb (length l) (size_of (layout_by (length l))) && options_sound (fields_in l)

-- 1
unfoldable pub options_record : List ℕ → Test
options_record l = record { fails = not (options_formed l); number = RECORD }

unfoldable pub options_of : List ℕ → RansacOptions
options_of l = options_from (fields_in l)

unfoldable pub options_answer : List ℕ → Answer RansacOptions
options_answer l = decided (first_failed (options_record l ∷ [])) (options_of l)

-- a record of 32 bytes with the ratio behind it that it is read with, 1
unfoldable pub completed : List ℕ → List ℕ
completed l = l ++ double_bytes one

-- ---- the maker: 1000, 12, 0.99, refit on, ratio 1

unfoldable pub usual_options : Float → RansacOptions
usual_options thresh =
    record {
      thresh = thresh;
      confidence = usual_confidence;
      max_iters = 1000;
      min_inliers = 12;
      refit = true;
      ratio = one;
    }

-- ---- the tests of the options themselves

-- 2: not finite or not above 0
unfoldable pub thresh : RansacOptions → Test
thresh o = record { fails = not (is_finite o.thresh && lt zero' o.thresh); number = THRESH }

-- 3: not strictly between 0 and 1
unfoldable pub confidence : RansacOptions → Test
confidence o = record { fails = not (lt zero' o.confidence && lt o.confidence one); number = CONFIDENCE }

-- 4: 0 or above 100,000
unfoldable pub iters : RansacOptions → Test
iters o = record { fails = eqb o.max_iters 0 || ltb 100000 o.max_iters; number = ITERS }

-- 2, 3, 4, 16
unfoldable pub options_tests : RansacOptions → List Test
options_tests o = thresh o ∷ confidence o ∷ iters o ∷ ratio o.ratio ∷ []
