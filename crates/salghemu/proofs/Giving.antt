-- What a run gives and writes, one law for each way out. Assumes nothing.
use mathlib.Core.Path.{◌≡◌, refl, sym, ◌∙◌}
use mathlib.Core.List.{List, [], ◌∷◌, ◌++◌}
use Prim.Native.Nat.{ℕ, ◌*◌, ◌≤◌}
use native.Mathlib.Omega.{arith}
use borrow.Rule.Slice.PartMut.{mid_of, put_mid}
use lib.ListN.{length, drop}
use lib.Ieee.{Float}
use Rattle.rule.specs.Lists.{for_each, filled}
use Rattle.rule.proofs.Lists.{for_each-length, filled_is}
use Rattle.estimator.specs.Family.{distances_of}
use Rattle.sheet.specs.Marks.{marks_of}
use Rattle.sheet.specs.Distance.{model_numbers}
use Rattle.sheet.specs.Sheets.{sheet, no_camera}
use Rattle.sheet.specs.Owed.{counts}
use Rattle.sheet.specs.declared.model.Model.{Model}
use Rattle.book.specs.Book.{Winner}
use Rattle.book.proofs.Clear.{count-within}
use Rattle.fields.specs.Fields.{bytes_of, double_bytes}
use Rattle.fields.proofs.Writing.{bytes_wide, laid_none, laid_more, laid_all}
use Rattle.records.specs.declared.options.RansacOptions.{RansacOptions}
use Rattle.score.specs.Places.{indices_in, indexed, index_count}
use Rattle.score.proofs.Walk.{indices_count as indices_counted, all_counted, all_indexed}
use Rattle.measure.proofs.Squares.{distances-count}
use Rattle.salghemu.specs.Whole.{winner_bytes, index_bytes, laid_over}

-- ---- the winner's record

-- the three parts, one after the other
pub winner_laid : (w : Winner Model) (s : List ℕ) → 88 ≤ length s → {a b c : List ℕ} → a ≡ filled (for_each (bytes_of 4) (w.count ∷ w.number ∷ [])) (mid_of 0 8 s)
    → b ≡ filled (double_bytes w.rms) (mid_of 8 8 (put_mid 0 8 s a))
    → c ≡ filled (for_each double_bytes (model_numbers w.model)) (mid_of 16 72 (put_mid 8 8 (put_mid 0 8 s a) b))
    → put_mid 16 72 (put_mid 8 8 (put_mid 0 8 s a) b) c ≡ laid_over (winner_bytes w) s
unfolding bytes_of double_bytes for_each model_numbers winner_bytes laid_over
winner_laid w s room e f g =
    let one = laid_more s (laid_none s) (omega arith) 0 8 (for_each (bytes_of 4) (w.count ∷ w.number ∷ [])) refl refl (omega (arith, room)) e in
    let two = laid_more s one (omega (arith, room)) 8 16 (double_bytes w.rms) refl refl (omega (arith, room)) f in
    let three = laid_more s two (omega (arith, room)) 16 88 (for_each double_bytes (model_numbers w.model)) refl refl room g in
    laid_all s three room ∙ filled_is (winner_bytes w) s room

-- ---- the indices

module _ (o : RansacOptions) (l : List Float) (h : Model) where
  abbrev ds : List Float
  ds = distances_of sheet no_camera o.ratio l h

  abbrev xs : List ℕ
  xs = indices_in o.thresh ds

  few : length xs ≤ length (marks_of l)
  few = rw (indices_counted o.thresh ds, ← distances-count sheet no_camera o.ratio l h) (count-within o.thresh ds)

  module _ (places : List ℕ) (short : length l ≤ 8000) (wide : length places ≡ 2000) where
    at_most_2000 : length ds ≤ 2000
    at_most_2000 = let a = distances-count sheet no_camera o.ratio l h in let b = counts l in omega (arith, a, b, short)

    pub indices_count : index_count o.thresh ds places ≡ length xs
    indices_count = all_counted o.thresh ds places (rw wide at_most_2000) at_most_2000

    pub indices_first : indexed o.thresh ds places ≡ xs ++ drop (length xs) places
    indices_first = all_indexed o.thresh ds places (rw wide at_most_2000) at_most_2000

  pub indices_laid : (entry : List ℕ) → 4 * length (marks_of l) ≤ length entry → laid_over (index_bytes o l h) entry ≡ filled (for_each (bytes_of 4) xs) entry
  unfolding laid_over index_bytes
  indices_laid entry room =
      let m = few in
      let b = for_each-length (bytes_of 4) 4 (bytes_wide 4) xs in
      sym (filled_is (for_each (bytes_of 4) xs) entry (omega (arith, m, b, room)))
