-- The options' writer: its ways out, and what its format keeps. Assumes nothing.
use mathlib.Core.Path.{◌≡◌, refl, sym, ap, ◌∙◌}
use mathlib.Core.Bool.{Bool, true, false, not, cond, ◌&&◌}
use mathlib.Core.List.{List, [], ◌∷◌, ◌++◌}
use Prim.Native.Nat.{ℕ, zero, suc, ◌^◌, ◌≤◌, ◌<◌}
use native.Mathlib.Omega.{arith}
use borrow.Author.Tests.{not-false}
use borrow.Rule.Slice.PartMut.{mid_of, put_mid}
use lib.Dec.{T, leb, eqb, leb→le, eqb→eq}
use lib.ListN.{length, get_or, drop}
use lib.Seq.{drop-cons}
use lib.Ieee.Bits.{is_true, of_bits-to_bits, to_bits-lt, to_bits-of_bits}
use native.Mathlib.Nat.{mod-eq_of_lt}
use lib.Ieee.{binary64, fits, lt, le, of_bits}
use Rattle.rule.specs.Refusal.{RECORD}
use Rattle.rule.specs.Answer.{Answer, refused, gives}
use Rattle.rule.specs.Order.{first_failed}
use Rattle.rule.specs.Lists.{for_each, filled}
use Rattle.rule.proofs.Tests.{and_true, is_test}
use Rattle.rule.proofs.Lists.{places_at, one_by_one}
use Rattle.rule.proofs.Order.{numbered, first_passed}
use Rattle.numbers.specs.Constants.{zero', one, least_ratio, greatest_ratio}
use Rattle.numbers.specs.Finite.{is_finite}
use Rattle.numbers.specs.Ratio.{ratio_accepted, ratio}
use Rattle.fields.specs.Fields.{bytes_of, double_bytes}
use Rattle.fields.specs.Packing.{size_of, packed}
use Rattle.fields.proofs.Writing.{laid_none, laid_more, laid_all}
use Rattle.fields.proofs.Packing.{Fit, none, more, fit_length, fit_at}
use Rattle.records.specs.Options.{mark_answer, short_layout, options_layout, options_sound, ratio_from, options_from, thresh, confidence, iters, options_tests}
use Rattle.records.specs.declared.options.RansacOptions.{RansacOptions}
use Rattle.records.proofs.Placed.{options_size}
use Rattle.records.proofs.Formed.{options_above_0}
use Rattle.writer.specs.Format.{record_of, writer_answer, Faithful}
use Rattle.writer.specs.Formats.{OptionNumbers, options_numbers, options_fields, OptionsRepresentable, options_asked, options_format}
use Rattle.writer.proofs.Order.{answer_by, answer_is}
use Rattle.std.proofs.lemmas.Bool.{and_parts}
use Rattle.writer.proofs.Bits.{finite_no_nan, above_no_nan}
use Rattle.writer.proofs.Faith.{Laws, faithful}

-- ---- the writer, by what its code asks

format_size : size_of options_format.layout ≡ 40
unfolding options_format
format_size = options_size

-- the options of plain numbers, but for the flag
abbrev pub options_with : OptionNumbers → Bool → RansacOptions
options_with n refit =
    record {
      thresh = n.thresh;
      confidence = n.confidence;
      max_iters = n.max_iters;
      min_inliers = n.min_inliers;
      refit = refit;
      ratio = n.ratio;
    }

-- the number of the tests: the mark's, or of the options with the flag that it stands for
abbrev pub by_mark : OptionNumbers → Answer Bool → ℕ
by_mark n (gives refit) = first_failed (options_tests (options_with n refit))
by_mark n (refused k) = k

above : (fields : List ℕ) → T (numbered (options_asked fields))
unfolding options_asked numbered
above fields = options_above_0 (options_from fields)

module _ (n : OptionNumbers) (entry : List ℕ) (p : fits binary64 n.thresh ≡ true) (q : fits binary64 n.confidence ≡ true) (r : fits binary64 n.ratio ≡ true) where
  from_fields : options_from (options_fields n) ≡ options_with n (eqb n.refit_mark 1)
  unfolding options_from options_fields ratio_from
  from_fields = rw (of_bits-to_bits binary64 n.thresh (rw p tt), of_bits-to_bits binary64 n.confidence (rw q tt), of_bits-to_bits binary64 n.ratio (rw r tt))

  here : first_failed (options_format.asks n ++ options_format.tests (options_format.fields n)) ≡ by_mark n (mark_answer n.refit_mark)
  unfolding options_format options_asked options_sound options_fields first_failed
  here = rw (and_true (leb n.refit_mark 1), from_fields) (go (leb n.refit_mark 1))
    where
      go : (small : Bool) → cond (not small) RECORD (first_failed (options_tests (options_with n (eqb n.refit_mark 1)))) ≡ by_mark n (cond small (gives (eqb n.refit_mark 1)) (refused RECORD))
      go true = refl
      go false = refl

  above_there : T (numbered (options_format.asks n ++ options_format.tests (options_format.fields n)))
  unfolding options_format
  above_there = above (options_fields n)

  pub options_answered : writer_answer options_format n entry ≡ answer_by (by_mark n (mark_answer n.refit_mark)) 40 (length entry)
  options_answered = answer_is options_format n entry above_there ∙ rw (here, format_size)

-- the mark and seven zero bytes, as they are copied
mark_bytes : (mark : ℕ) → mark < 256 → mark ∷ 0 ∷ 0 ∷ 0 ∷ 0 ∷ 0 ∷ 0 ∷ 0 ∷ [] ≡ bytes_of 1 mark ++ bytes_of 7 0
unfolding bytes_of
mark_bytes mark h = rw (mod-eq_of_lt h)

module _ (n : OptionNumbers) (entry : List ℕ) where
  abbrev doubles : List ℕ
  doubles = for_each double_bytes (n.thresh ∷ n.confidence ∷ [])

  abbrev words : List ℕ
  words = for_each (bytes_of 4) (n.max_iters ∷ n.min_inliers ∷ [])

  -- the four parts, one after the other
  pub options_laid : 40 ≤ length entry → n.refit_mark < 256 → {a b c d : List ℕ} → a ≡ filled doubles (mid_of 0 16 entry)
      → b ≡ filled words (mid_of 16 8 (put_mid 0 16 entry a))
      → c ≡ filled (n.refit_mark ∷ 0 ∷ 0 ∷ 0 ∷ 0 ∷ 0 ∷ 0 ∷ 0 ∷ []) (mid_of 24 8 (put_mid 16 8 (put_mid 0 16 entry a) b))
      → d ≡ filled (double_bytes n.ratio) (mid_of 32 8 (put_mid 24 8 (put_mid 16 8 (put_mid 0 16 entry a) b) c))
      → put_mid 32 8 (put_mid 24 8 (put_mid 16 8 (put_mid 0 16 entry a) b) c) d ≡ filled (record_of options_format n) entry
  unfolding bytes_of double_bytes for_each record_of options_format short_layout options_layout options_fields packed
  options_laid room byte {a} {b} e f g h =
      let one = laid_more entry (laid_none entry) (omega arith) 0 16 doubles refl refl (omega arith) e in
      let two = laid_more entry one (omega arith) 16 24 words refl refl (omega arith) f in
      let three = laid_more entry two (omega arith) 24 32 (bytes_of 1 n.refit_mark ++ bytes_of 7 0) refl refl (omega arith) (g ∙ ap (λ l. filled l (mid_of 24 8 (put_mid 16 8 (put_mid 0 16 entry a) b))) (mark_bytes n.refit_mark byte)) in
      let four = laid_more entry three (omega arith) 32 40 (double_bytes n.ratio) refl refl room h in
      laid_all entry four room

-- ---- what the format keeps

mark_kept : (mark : ℕ) → leb mark 1 ≡ true → cond (eqb mark 1) 1 0 ≡ mark
mark_kept mark h = go mark (leb→le mark 1 (is_test (leb mark 1) h))
  where
    go : (k : ℕ) → k ≤ 1 → cond (eqb k 1) 1 0 ≡ k
    go zero h = refl
    go (suc zero) h = refl
    go (suc (suc k)) h = absurd (omega (arith, h))

-- what the tests say where none fails
module _ (f : List ℕ) (passed : first_failed (options_asked f) ≡ 0) where
  first : (options_sound f ≡ true) × (first_failed (options_tests (options_from f)) ≡ 0)
  unfolding options_asked
  first =
      let p = first_passed (record { fails = not (options_sound f); number = RECORD }) (options_tests (options_from f)) tt passed in
      (not-false (options_sound f) p.0, p.1)

  small_mark : leb (get_or f 4 0) 1 ≡ true
  unfolding options_sound
  small_mark = (and_parts (leb (get_or f 4 0) 1) (eqb (get_or f 5 0) 0) first.0).0

  no_filler : get_or f 5 0 ≡ 0
  unfolding options_sound
  no_filler = eqb→eq (get_or f 5 0) 0 (is_test (eqb (get_or f 5 0) 0) (and_parts (leb (get_or f 4 0) 1) (eqb (get_or f 5 0) 0) first.0).1)

  abbrev o : RansacOptions
  o = options_from f

  second : ((thresh o).fails ≡ false) × (first_failed (confidence o ∷ iters o ∷ ratio o.ratio ∷ []) ≡ 0)
  unfolding options_tests thresh
  second = first_passed (thresh o) _ tt first.1

  third : ((confidence o).fails ≡ false) × (first_failed (iters o ∷ ratio o.ratio ∷ []) ≡ 0)
  unfolding confidence
  third = first_passed (confidence o) _ tt second.1

  finite_ratio : is_finite (ratio_from (drop 6 f)) ≡ true
  unfolding options_from iters ratio ratio_accepted
  finite_ratio =
      let r = ratio_from (drop 6 f) in
      let last = first_passed (ratio r) [] tt (first_passed (iters o) _ tt third.1).1 in
      (and_parts (is_finite r) (le least_ratio r && le r greatest_ratio) (not-false (is_finite r && (le least_ratio r && le r greatest_ratio)) last.0)).0

  finite_thresh : is_finite (of_bits binary64 (get_or f 0 0)) ≡ true
  unfolding thresh options_from
  finite_thresh =
      (and_parts (is_finite (of_bits binary64 (get_or f 0 0))) (lt zero' (of_bits binary64 (get_or f 0 0)))
      (not-false (is_finite (of_bits binary64 (get_or f 0 0)) && lt zero' (of_bits binary64 (get_or f 0 0))) second.0)).0

  positive_confidence : lt zero' (of_bits binary64 (get_or f 1 0)) ≡ true
  unfolding confidence options_from
  positive_confidence =
      (and_parts (lt zero' (of_bits binary64 (get_or f 1 0))) (lt (of_bits binary64 (get_or f 1 0)) one)
      (not-false (lt zero' (of_bits binary64 (get_or f 1 0)) && lt (of_bits binary64 (get_or f 1 0)) one) third.0)).0

options_back : (n : OptionNumbers) → OptionsRepresentable n → first_failed (options_asked (options_fields n)) ≡ 0 → options_numbers (options_from (options_fields n)) ≡ n
unfolding OptionsRepresentable options_numbers options_fields
options_back n held passed =
    rw (from_fields n [] (is_true (fits binary64 _) held.0) (is_true (fits binary64 _) held.1) (is_true (fits binary64 _) held.5), mark_kept n.refit_mark (small_mark (options_fields n) passed))

ratio_there : (f : List ℕ) → length f ≡ 7 → ratio_from (drop 6 f) ≡ of_bits binary64 (get_or f 6 0)
unfolding ratio_from
ratio_there f size = rw (drop-cons f 6 0 (omega (arith, size)))

options_again : (f : List ℕ) → Fit options_layout f → first_failed (options_asked f) ≡ 0 → options_fields (options_numbers (options_from f)) ≡ f
unfolding short_layout options_layout options_fields options_numbers options_from places_at
options_again f fit passed =
    let size = fit_length fit in
    let there = ratio_there f size in
    rw (to_bits-of_bits binary64 (get_or f 0 0) (fit_at fit 0 (omega arith)) (finite_no_nan (of_bits binary64 (get_or f 0 0)) (finite_thresh f passed)), to_bits-of_bits binary64 (get_or f 1 0) (fit_at fit 1 (omega arith)) (above_no_nan zero' (of_bits binary64 (get_or f 1 0)) (positive_confidence f passed)), mark_kept (get_or f 4 0) (small_mark f passed), there, to_bits-of_bits binary64 (get_or f 6 0) (fit_at fit 6 (omega arith)) (finite_no_nan (of_bits binary64 (get_or f 6 0)) (ap is_finite (sym there) ∙ finite_ratio f passed)))
    (ap (λ filler. get_or f 0 0 ∷ get_or f 1 0 ∷ get_or f 2 0 ∷ get_or f 3 0 ∷ get_or f 4 0 ∷ filler ∷ get_or f 6 0 ∷ []) (sym (no_filler f passed)) ∙ sym (one_by_one 7 0 f 0 size))

options-fit : (n : OptionNumbers) → OptionsRepresentable n → Fit options_layout (options_fields n)
unfolding OptionsRepresentable short_layout options_layout options_fields
options-fit n held =
    let filler : 0 < 256 ^ 7 = omega arith in
    more (to_bits-lt binary64 n.thresh held.0) (more (to_bits-lt binary64 n.confidence held.1) (more held.2 (more held.3 (more held.4 (more filler (more (to_bits-lt binary64 n.ratio held.5) none))))))

options_laws : Laws options_format
unfolding options_format numbered first_failed
options_laws =
    record {
      above_0 = tt;
      asks_above_0 = λ n. tt;
      tests_above_0 = above;
      fit = options-fit;
      asked = λ n held. refl;
      back = options_back;
      again = λ f fit passed. (options_again f fit passed, refl);
    }

pub options_faithful : Faithful options_format
options_faithful = faithful options_format options_laws
