-- Options and trials, one law for each way out of their readers. Assumes nothing.
use mathlib.Core.Path.{◌≡◌, refl, sym, ap, subst, ◌∙◌}
use mathlib.Core.Bool.{Bool, true, false, not, cond, ◌&&◌, ◌||◌, true≢false}
use mathlib.Core.List.{List, [], ◌∷◌, map}
use Prim.Native.Nat.{ℕ, ◌+◌, ◌-◌, ◌*◌, ◌≤◌, ◌<◌}
use native.Mathlib.Omega.{arith}
use borrow.Author.Tests.{eq-eqb, ne_eqb, eqb-true, eqb-false, ltb-false}
use mir.Syntax.{w8}
use mir.Val.{Fits}
use Rattle.std.specs.Bool.{then_some}
use Rattle.std.specs.Prelude.{Option, Some, None}
use Rattle.std.proofs.lemmas.Bool.{and_parts}
use Rattle.std.proofs.lemmas.List.{take_rest, take-replicate, drop-replicate}
use Rattle.std.proofs.lemmas.List.FromFn.{fill_by_all}
use lib.Dec.{T, leb, eqb, ltb}
use lib.ListN.{length, get_or, take, drop, replicate, length-drop, length-map, get_or-map}
use lib.Seq.{drop-drop, length-take-le, get_or-take, get_or-drop}
use lib.Ieee.{Float, binary64, of_bits}
use Rattle.rule.specs.Refusal.{RECORD}
use Rattle.rule.specs.Answer.{Answer, refused, gives}
use Rattle.rule.specs.Order.{first_failed, decided}
use Rattle.rule.proofs.Tests.{neither}
use Rattle.rule.proofs.Order.{numbered, first_passed}
use Rattle.numbers.specs.Constants.{one}
use Rattle.numbers.specs.Ratio.{ratio}
use Rattle.book.specs.Score.{Trial, unfitted, fitted, refitted}
use Rattle.fields.specs.Fields.{little_endian, longs_of, byte_at, word_at, long_at, double_at, zero_bytes}
use Rattle.fields.specs.Packing.{size_of, unpacked}
use Rattle.fields.proofs.Reading.{longs_count, long_spelled}
use Rattle.fields.proofs.Packing.{Fit, fit-taken, fit-left, unpacked-fit, zero_longs}
use Rattle.estimator.specs.Family.{Family}
use Rattle.estimator.specs.Numbers.{numbers_at, model_read}
use Rattle.records.specs.Options.{layout_by, fields_in, options_sound, ratio_from, options_from, options_formed, options_record, options_of, options_answer, thresh, confidence, iters, options_tests}
use Rattle.records.specs.Trial.{trial_layout, model_from, marked, marks_formed, numbers_formed, trial_sound, trial_from, trial_formed, trial_record, trial_of, trial_answer, fit_bits, refit_bits, view_recorded}
use Rattle.records.specs.declared.trial.Fitted.{Fitted}
use Rattle.records.specs.declared.options.RansacOptions.{RansacOptions}
use Rattle.records.proofs.Bits.{formed_again, bytes_read}
use Rattle.records.proofs.Placed.{short_size, options_size, thresh_placed, confidence_placed, iters_placed, inliers_placed, refit_placed, filler_placed, ratio-none, ratio_placed, trial_size, fit_placed, refit_mark_placed, trial_filler_placed, fit_bits_placed, refit_bits_placed}

-- ---- an options record

-- its length: 40 bytes, or 32
pub short_sized : (n : ℕ) → n ≡ 32 → true ≡ eqb n (size_of (layout_by n))
unfolding layout_by
short_sized n h = rw (short_size, eq-eqb n 32 h, short_size, eq-eqb n 32 h)

pub long_sized : (n : ℕ) → (n ≡ 32 → ⊥) → eqb n 40 ≡ eqb n (size_of (layout_by n))
unfolding layout_by
long_sized n h = rw (short_size, ne_eqb n 32 h, options_size)

-- what is decided by one test
by_test : {A : Type 0} (b : Bool) (a : A) → decided (first_failed (record { fails = not b; number = RECORD } ∷ [])) a ≡ cond b (gives a) (refused RECORD)
unfolding decided first_failed
by_test true a = refl
by_test false a = refl

module _ (l : List ℕ) where
  -- the options by what stands at each place, with the ratio
  abbrev options_at : Float → RansacOptions
  options_at r =
      record {
        thresh = double_at l 0;
        confidence = double_at l 1;
        max_iters = word_at l 4;
        min_inliers = word_at l 5;
        refit = eqb (byte_at l 24) 1;
        ratio = r;
      }

  abbrev with_ratio : Float → Answer RansacOptions
  with_ratio r = cond (leb (byte_at l 24) 1 && zero_bytes 25 32 l) (gives (options_at r)) (refused RECORD)

  module _ (wide : 32 ≤ length l) (size : eqb (length l) (size_of (layout_by (length l))) ≡ true) (r : Float) (at : r ≡ ratio_from (drop 6 (fields_in l))) where
    formed : options_formed l ≡ (leb (byte_at l 24) 1 && zero_bytes 25 32 l)
    unfolding options_formed options_sound
    formed = rw (size, refit_placed l wide, filler_placed l wide)

    are : options_of l ≡ options_at r
    unfolding options_of options_from
    are = rw (thresh_placed l wide, confidence_placed l wide, iters_placed l wide, inliers_placed l wide, refit_placed l wide, at)

    sized : options_answer l ≡ with_ratio r
    unfolding options_answer options_record
    sized = by_test (options_formed l) (options_of l) ∙ rw (formed, are)

  unsized : (length l ≡ 32 → ⊥) → (length l ≡ 40 → ⊥) → options_answer l ≡ refused RECORD
  unfolding options_answer options_record options_formed
  unsized h g = by_test (options_formed l) (options_of l) ∙ rw (← long_sized (length l) h, ne_eqb (length l) 40 g)

  -- the record's answer as the code finds it
  pub options_read : options_answer l ≡ cond (eqb (length l) 32) (with_ratio one) (cond (eqb (length l) 40) (with_ratio (double_at l 4)) (refused RECORD))
  options_read = short (eqb (length l) 32) refl
    where
      long : (b : Bool) → (length l ≡ 32 → ⊥) → eqb (length l) 40 ≡ b → options_answer l ≡ cond b (with_ratio (double_at l 4)) (refused RECORD)
      long true h e = let g = eqb-true (length l) 40 e in sized (omega (arith, g)) (sym (long_sized (length l) h) ∙ e) (double_at l 4) (ratio_placed l g)
      long false h e = unsized h (eqb-false (length l) 40 e)

      short : (b : Bool) → eqb (length l) 32 ≡ b → options_answer l ≡ cond b (with_ratio one) (cond (eqb (length l) 40) (with_ratio (double_at l 4)) (refused RECORD))
      short true e = let g = eqb-true (length l) 32 e in sized (omega (arith, g)) (sym (short_sized (length l) g)) one (ratio-none l g)
      short false e = long (eqb (length l) 40) (eqb-false (length l) 32 e) refl

-- ---- the tests of the options

pub options_above_0 : (o : RansacOptions) → T (numbered (options_tests o))
unfolding numbered options_tests thresh confidence iters ratio
options_above_0 o = tt

-- max_iters is at most 100,000 where they pass
pub few-iters : (o : RansacOptions) → first_failed (options_tests o) ≡ 0 → o.max_iters ≤ 100000
unfolding options_tests thresh confidence iters
few-iters o h =
    let a = first_passed (thresh o) _ tt h in
    let b = first_passed (confidence o) _ tt a.1 in
    let c = first_passed (iters o) _ tt b.1 in
    ltb-false 100000 o.max_iters (neither (eqb o.max_iters 0) (ltb 100000 o.max_iters) c.0).1

-- ---- a trial's record

-- n numbers from the front of the bytes from the double at place i on
module _ (n : ℕ) (l : List ℕ) (i : ℕ) (inside : 8 * i + 8 * n ≤ length l) where
  abbrev rest : List ℕ
  rest = drop (8 * i) l

  abbrev bits : List ℕ
  bits = take n (drop i (longs_of l))

  long_there : (j : ℕ) → j < n → long_at rest j ≡ long_at l (i + j)
  long_there j h =
      let e : 8 * i + 8 * j ≡ 8 * (i + j) = omega arith in
      long_spelled rest j (rw (length-drop (8 * i) l) (omega arith))
      ∙ ap (λ part. little_endian (take 8 part)) (drop-drop (8 * j) (8 * i) l ∙ ap (λ p. drop p l) e)
      ∙ sym (long_spelled l (i + j) (omega arith))

  number_there : (j : ℕ) → j < n → double_at rest j ≡ get_or (map (of_bits binary64) bits) j (of_bits binary64 0)
  unfolding double_at long_at
  number_there j h =
      ap (of_bits binary64) (long_there j h ∙ sym (get_or-take n (drop i (longs_of l)) j 0 h ∙ get_or-drop i (longs_of l) j 0)) ∙ sym (get_or-map (of_bits binary64) bits j 0)

  pub numbers_there : numbers_at n rest ≡ map (of_bits binary64) bits
  unfolding numbers_at
  numbers_there =
      let count : length bits ≡ n = length-take-le n (drop i (longs_of l)) (rw (length-drop i (longs_of l), longs_count l) (omega arith)) in
      sym (fill_by_all (double_at rest) (map (of_bits binary64) bits) n (of_bits binary64 0) (length-map bits (of_bits binary64) ∙ count) (λ j h. sym (number_there j h)))

-- Marks that may stand in a record mark no refit without a fit, so the code's trial is the record's.
ordered : (a b : ℕ) → marks_formed a b ≡ true → (eqb a 1 || not (eqb b 1)) ≡ true
unfolding marks_formed
ordered a b h = (and_parts (leb b 1) _ (and_parts (leb a 1) _ h).1).1

module _ {M : Type 0} where
  abbrev given_by : (fit_mark refit_mark : Bool) → (fit refit : M) → Option (Fitted M)
  given_by a b fit refit = then_some a (record { fit = fit; refit = then_some b refit })

  given_is : (a b : Bool) (fit refit : M) → (a || not b) ≡ true → cond b (refitted fit refit) (cond a (fitted fit) unfitted) ≡ view_recorded (given_by a b fit refit)
  given_is true true fit refit h = refl
  given_is true false fit refit h = refl
  given_is false true fit refit h = absurd (true≢false (sym h))
  given_is false false fit refit h = refl

  -- what the code makes of two marks and of what may stand behind them
  abbrev pub answer_by : (fit_mark refit_mark : Bool) → (fit refit : Option M) → Answer (Trial M)
  answer_by a b None refit = refused RECORD
  answer_by a b (Some fit) None = refused RECORD
  answer_by a b (Some fit) (Some refit) = gives (view_recorded (given_by a b fit refit))

  by_parts : (a b z m p q : Bool) (fit refit : M) (t : Trial M) → (m ≡ true → t ≡ view_recorded (given_by a b fit refit))
      → cond (m && (z && (p && q))) (gives t) (refused RECORD) ≡ cond (z && m) (answer_by a b (cond p (Some fit) None) (cond q (Some refit) None)) (refused RECORD)
  by_parts a b true true true true fit refit t same = ap gives (same refl)
  by_parts a b true true true false fit refit t same = refl
  by_parts a b true true false q fit refit t same = refl
  by_parts a b true false p q fit refit t same = refl
  by_parts a b false true p q fit refit t same = refl
  by_parts a b false false p q fit refit t same = refl

-- the bytes from a place on, as the code has them
abbrev pub behind : ℕ → List ℕ → List ℕ
behind at l = take (length l - at) (drop at l)

module _ {E M K : Type 0} (f : Family E M K) where
  -- a candidate whose numbers have these bits
  read_is : (mark : Bool) (l bits : List ℕ) → numbers_at f.size l ≡ map (of_bits binary64) bits → Fit (replicate f.size 8) bits
      → model_read f mark l ≡ cond (numbers_formed mark bits) (Some (model_from f bits)) None
  unfolding model_read model_from
  read_is mark l bits same fit = rw (same, formed_again mark f.size bits fit)

  module _ (l : List ℕ) (size : length l ≡ 8 + 16 * f.size) (bytes : (i : ℕ) → Fits w8 (get_or l i 0)) where
    abbrev fields : List ℕ
    fields = unpacked (trial_layout f.size) l

    abbrev a : ℕ
    a = get_or l 0 0

    abbrev b : ℕ
    b = get_or l 1 0

    fits : Fit (trial_layout f.size) fields
    fits = unpacked-fit (trial_layout f.size) l (size ∙ sym (trial_size f.size)) (bytes_read l bytes)

    fit_fits : Fit (replicate f.size 8) (fit_bits f.size fields)
    unfolding fit_bits trial_layout
    fit_fits = subst (λ (w : List ℕ). Fit w (fit_bits f.size fields)) (take-replicate f.size (2 * f.size) 8 (omega arith)) (fit-taken f.size (fit-left 3 fits))

    refit_fits : Fit (replicate f.size 8) (refit_bits f.size fields)
    unfolding refit_bits trial_layout
    refit_fits =
        let e : take f.size (drop (3 + f.size) (trial_layout f.size)) ≡ replicate f.size 8 =
        ap (take f.size) (sym (drop-drop f.size 3 (trial_layout f.size)) ∙ drop-replicate f.size (2 * f.size) 8) ∙ take-replicate f.size (2 * f.size - f.size) 8 (omega arith)
        in
        subst (λ (w : List ℕ). Fit w (refit_bits f.size fields)) e (fit-taken f.size (fit-left (3 + f.size) fits))

    fit_read : (mark : Bool) → model_read f mark (behind 8 l) ≡ cond (numbers_formed mark (fit_bits f.size fields)) (Some (model_from f (fit_bits f.size fields))) None
    fit_read mark =
        rw (take_rest l 8)
        (read_is mark (drop 8 l) (fit_bits f.size fields) (numbers_there f.size l 1 (omega arith) ∙ ap (map (of_bits binary64)) (sym (fit_bits_placed f.size l size))) fit_fits)

    refit_read : (mark : Bool) → model_read f mark (behind (8 + 8 * f.size) l) ≡ cond (numbers_formed mark (refit_bits f.size fields)) (Some (model_from f (refit_bits f.size fields))) None
    refit_read mark =
        let e : 8 + 8 * f.size ≡ 8 * (1 + f.size) = omega arith in
        rw (take_rest l (8 + 8 * f.size), e)
        (read_is mark (drop (8 * (1 + f.size)) l) (refit_bits f.size fields)
        (numbers_there f.size l (1 + f.size) (omega arith) ∙ ap (map (of_bits binary64)) (sym (refit_bits_placed f.size l size))) refit_fits)

    formed_there : trial_formed f.size l
        ≡ (marks_formed a b && (zero_bytes 2 8 l && (numbers_formed (eqb a 1) (fit_bits f.size fields) && numbers_formed (eqb b 1) (refit_bits f.size fields))))
    unfolding trial_formed trial_sound marked byte_at
    formed_there =
        rw (trial_size f.size, eq-eqb (length l) (8 + 16 * f.size) size, ← fit_placed f.size l size, ← refit_mark_placed f.size l size, ← trial_filler_placed f.size l size)

    trial_there : marks_formed a b ≡ true → trial_of f l ≡ view_recorded (given_by (eqb a 1) (eqb b 1) (model_from f (fit_bits f.size fields)) (model_from f (refit_bits f.size fields)))
    unfolding trial_of trial_from marked byte_at
    trial_there h =
        rw (← fit_placed f.size l size, ← refit_mark_placed f.size l size)
        (given_is (eqb a 1) (eqb b 1) (model_from f (fit_bits f.size fields)) (model_from f (refit_bits f.size fields)) (ordered a b h))

    pub trial_read : trial_answer f l
        ≡ cond (zero_bytes 2 8 l && marks_formed a b) (answer_by (eqb a 1) (eqb b 1) (model_read f (eqb a 1) (behind 8 l)) (model_read f (eqb b 1) (behind (8 + 8 * f.size) l))) (refused RECORD)
    unfolding trial_answer trial_record
    trial_read =
        by_test (trial_formed f.size l) (trial_of f l)
        ∙ rw (formed_there, fit_read (eqb a 1), refit_read (eqb b 1))
        (by_parts (eqb a 1) (eqb b 1) (zero_bytes 2 8 l) (marks_formed a b) (numbers_formed (eqb a 1) (fit_bits f.size fields)) (numbers_formed (eqb b 1) (refit_bits f.size fields))
        (model_from f (fit_bits f.size fields)) (model_from f (refit_bits f.size fields)) (trial_of f l) trial_there)

  pub other_length : (l : List ℕ) → (length l ≡ 8 + 16 * f.size → ⊥) → trial_answer f l ≡ refused RECORD
  unfolding trial_answer trial_record trial_formed
  other_length l h = by_test (trial_formed f.size l) (trial_of f l) ∙ rw (trial_size f.size, ne_eqb (length l) (8 + 16 * f.size) h)

-- ---- the numbers of an unmarked candidate, by their bytes

pub model-empty : (l : List ℕ) (first : ℕ) → 8 * first + 72 ≤ length l → {mark : Bool} → mark ≡ false → {r : Bool} → r ≡ zero_bytes (8 * first) (8 * first + 72) l
    → r ≡ numbers_formed mark (take 9 (drop first (longs_of l)))
unfolding numbers_formed
model-empty l first inside t f = rw t (f ∙ zero_longs first 9 l inside)
