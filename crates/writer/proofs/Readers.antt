-- The formats' readers are the entries' own: the opening of any family reads options as their format does, `read_trial` a sheet's trial, and `read_marks` gives
-- the numbers of a file's marks, so that records written one after the other make it. Assumes nothing.
use mathlib.Core.Path.{◌≡◌, refl, sym, ap, ap₂, subst, ◌∙◌}
use mathlib.Core.Bool.{Bool, true, false, not, ◌&&◌}
use mathlib.Core.List.{List, [], ◌∷◌, ◌++◌, map, append-nil}
use Prim.Native.Nat.{ℕ, ◌*◌, ◌/◌, ◌%◌}
use native.Mathlib.Omega.{arith}
use borrow.Author.Tests.{eq-eqb, ne_eqb}
use lib.Dec.{T, eqb}
use lib.ListN.{length, get_or, replicate, length-map, length-replicate}
use lib.Ieee.{Float, binary64, fits, of_bits, to_bits}
use lib.Ieee.Fits.{and_i, and_l, and_r}
use Rattle.rule.specs.Refusal.{RECORD}
use Rattle.rule.specs.Answer.{refused, gives}
use Rattle.rule.specs.Order.{Test, first_failed, decided}
use Rattle.rule.specs.Lists.{every, parts_of, for_each}
use Rattle.rule.proofs.Order.{passes, first_passed, one_failed, decided-none, decided-gives, decided-refused, decided_some}
use Rattle.rule.proofs.Lists.{places_at, one_by_one, for_each-append, for_each-length}
use Rattle.rule.proofs.Tests.{clash}
use Rattle.numbers.specs.Constants.{one, farthest}
use Rattle.numbers.specs.Finite.{all_finite}
use Rattle.estimator.specs.Family.{Family}
use Rattle.estimator.specs.Marks.{point, shape, entries, marks_tests, run_tests}
use Rattle.estimator.proofs.Alone.{one_mark}
use Rattle.sheet.specs.Marks.{marks_of, mark_numbers, no_mark, mark_at}
use Rattle.sheet.specs.Sheets.{sheet}
use Rattle.sheet.specs.declared.marks.Mark.{Mark}
use Rattle.fields.specs.Fields.{fields_of, longs_of, doubles_of, all_bytes, bytes_of, double_bytes}
use Rattle.fields.specs.Packing.{size_of, unpacked, packed}
use Rattle.fields.proofs.Writing.{double_wide}
use Rattle.fields.proofs.Packing.{Fit, none, fit_length, unpacked-packed, unpacked_even, unpacked-fit, even_size, packed_even, packed-unpacked, every_append}
use Rattle.records.specs.Options.{options_layout, layout_by, fields_in, options_sound, options_from, options_formed, options_record, options_of, options_tests, completed}
use Rattle.records.specs.Trial.{trial_layout, trial_sound, trial_from, trial_formed, trial_record, trial_of, trial_answer}
use Rattle.records.specs.Marks.{numbers_in}
use Rattle.records.specs.declared.options.RansacOptions.{RansacOptions}
use Rattle.records.proofs.Placed.{short_size, options_size}
use Rattle.records.proofs.Short.{completed_size, short_formed, short_options}
use Rattle.records.proofs.Whole.{numbers-length, numbers-whole}
use Rattle.pick.specs.Opening.{opening_tests, fresh_run, opening_answer, record_answer}
use Rattle.writer.specs.Format.{sized, reads, as_numbers, numbers_read, record_of}
use Rattle.writer.specs.Formats.{options_numbers, options_asked, options_format, mark_layout, mark_from, mark_format, trial_format}
use Rattle.writer.specs.Readers.{OptionsReader, ShortMade, TrialReader, MarkReader}
use Rattle.writer.proofs.Bits.{numbers_back, fields_fit, bits_again, bits-written}
use Rattle.writer.proofs.OfMark.{mark_size, packs, four, within_finite}
use Rattle.writer.proofs.OfOptions.{options_faithful}

-- two tests of one number are as one
two_as_one : (a b : Bool) (k : ℕ) (ts : List Test)
    → first_failed (record { fails = not a; number = k } ∷ record { fails = not b; number = k } ∷ ts) ≡ first_failed (record { fails = not (a && b); number = k } ∷ ts)
unfolding first_failed
two_as_one true b k ts = refl
two_as_one false b k ts = refl

-- ---- options

module _ (l : List ℕ) where
  abbrev o : RansacOptions
  o = options_of l

  abbrev asked : List Test
  asked = options_record l ∷ options_tests o

  -- the format is that of 40 bytes
  options-tests : (length l ≡ 32 → ⊥) → reads options_format l ≡ decided (first_failed asked) o
  unfolding reads sized options_format options_asked options_record options_formed options_of fields_in layout_by
  options-tests long =
      rw (short_size, ne_eqb (length l) 32 long)
      (ap (λ k. decided k (options_from (unpacked options_layout l)))
      (two_as_one (eqb (length l) (size_of options_layout)) (options_sound (unpacked options_layout l)) RECORD (options_tests (options_from (unpacked options_layout l)))))

  not_short : (p : RansacOptions) → reads options_format l ≡ gives p → length l ≡ 32 → ⊥
  unfolding reads sized options_format
  not_short p e size =
      let d = decided-gives (first_failed (sized options_format l ∷ options_asked (unpacked options_layout l))) (sym e) in
      clash (rw (size, options_size)) (first_passed (sized options_format l) (options_asked (unpacked options_layout l)) tt d.0).0

  -- whatever the marks and the stops are, of any family
  module _ {E M K : Type 0} (f : Family E M K) (e : E) (marks : List Float) (stops : List ℕ) where
    abbrev rest : List Test
    rest = run_tests f marks ++ (entries f marks stops ∷ f.tests e)

    opening_refuses : (length l ≡ 32 → ⊥) → (k : ℕ) → reads options_format l ≡ refused k → record_answer f e l marks stops ≡ refused k
    unfolding record_answer opening_tests
    opening_refuses long k h =
        let d = decided-refused (first_failed asked) o (sym h ∙ options-tests long) in
        let failed : k ≡ first_failed (asked ++ rest) = d.0 ∙ one_failed asked rest d.1 in
        sym (ap refused failed ∙ decided_some (first_failed (asked ++ rest)) _ (λ z. d.1 (sym d.0 ∙ failed ∙ z)))

    opening-reads : (p : RansacOptions) → reads options_format l ≡ gives p → record_answer f e l marks stops ≡ opening_answer f e p marks stops
    unfolding record_answer opening_answer options_record
    opening-reads p h =
        let d = decided-gives (first_failed asked) (sym h ∙ options-tests (not_short p h)) in
        let formed = (first_passed (options_record l) (options_tests o) tt d.0).0 in
        ap (λ k. decided k (fresh_run e o (length (f.marks_of marks)))) (sym (passes (options_record l) (opening_tests f e o marks stops) formed)) ∙ ap (λ q. opening_answer f e q marks stops) (sym d.1)

pub options_reader : {E M K : Type 0} (f : Family E M K) → OptionsReader f
unfolding record_answer options_record
options_reader f = record {
  refuses = λ l. opening_refuses l f;
  opens = λ l. opening-reads l f;
  completes = λ l size e marks stops. rw (short_formed l size, short_options l size);
}

-- ---- a record of 32 bytes: the one of 40 that it stands for

module _ (l : List ℕ) (size : length l ≡ 32) (bytes : T (all_bytes l)) (accepted : first_failed (options_record l ∷ options_tests (options_of l)) ≡ 0) where
  completed-bytes : T (all_bytes (completed l))
  unfolding completed all_bytes double_bytes bytes_of to_bits of_bits
  completed-bytes = subst T (sym (every_append _ l (double_bytes one))) (and_i (all_bytes l) (all_bytes (double_bytes one)) bytes tt)

  completed-read : numbers_read options_format (completed l) ≡ gives (options_numbers (options_of l))
  unfolding numbers_read as_numbers options_record options_format
  completed-read =
      let long : length (completed l) ≡ 32 → ⊥ = λ e. (let k = completed_size l size in omega (arith, e, k)) in
      let none : first_failed (options_record (completed l) ∷ options_tests (options_of (completed l))) ≡ 0 = rw (← short_formed l size, ← short_options l size) accepted in
      ap (as_numbers options_numbers) (options-tests (completed l) long ∙ sym (decided-none (options_of (completed l)) (sym none))) ∙ ap (λ q. gives (options_numbers q)) (sym (short_options l size))

pub short_made : ShortMade
unfolding options_format
short_made l size bytes accepted entry room =
    rw (← completed_size l size)
    (options_faithful.made (completed l) (options_numbers (options_of l)) entry (completed-bytes l size bytes accepted) (completed-read l size bytes accepted) (rw options_size room))

-- ---- a trial

pub trial_reader : TrialReader
unfolding reads sized trial_format trial_answer trial_record trial_formed trial_of
trial_reader l = ap (λ k. decided k (trial_from sheet (unpacked (trial_layout 9) l))) (two_as_one (eqb (length l) (size_of (trial_layout 9))) (trial_sound 9 (unpacked (trial_layout 9) l)) RECORD [])

-- ---- marks

-- the eight-byte fields of a file
longs_unpacked : (n : ℕ) (l : List ℕ) → length l / 8 ≡ n → longs_of l ≡ unpacked (replicate n 8) l
unfolding longs_of fields_of parts_of
longs_unpacked n l h = rw h (sym (unpacked_even 8 n l))

four-marks : (f : List ℕ) → length f ≡ 4 → marks_of (map (of_bits binary64) f) ≡ mark_from f ∷ []
unfolding marks_of mark_from places_at
four-marks f h = ap (λ g. marks_of (map (of_bits binary64) g)) (one_by_one 4 0 f 0 h)

module _ (l : List ℕ) (size : length l ≡ 32) where
  abbrev f : List ℕ
  f = unpacked mark_layout l

  numbers_are : doubles_of l ≡ map (of_bits binary64) f
  unfolding doubles_of mark_layout
  numbers_are = ap (map (of_bits binary64)) (longs_unpacked 4 l (omega (arith, size)))

  f_wide : length f ≡ 4
  unfolding mark_layout unpacked
  f_wide = refl

  numbers_in_lem : numbers_in 4 l ≡ map (of_bits binary64) f
  numbers_in_lem = numbers-whole 4 l (omega (arith, size)) ∙ numbers_are

  mark_is : marks_of (numbers_in 4 l) ≡ mark_from f ∷ []
  mark_is = ap marks_of numbers_in_lem ∙ four-marks f f_wide

  mark_tests : first_failed (sized mark_format l ∷ point (map (of_bits binary64) f) ∷ []) ≡ first_failed (marks_tests sheet (numbers_in 4 l))
  unfolding sized mark_format shape
  mark_tests =
      let wide : length (map (of_bits binary64) f) ≡ 4 = length-map f (of_bits binary64) ∙ f_wide in
      sym (passes (sized mark_format l) (point (map (of_bits binary64) f) ∷ []) (rw (mark_size, eq-eqb (length l) 32 size)))
      ∙ passes (shape sheet (map (of_bits binary64) f)) (point (map (of_bits binary64) f) ∷ []) (rw wide)
      ∙ sym (one_mark sheet (map (of_bits binary64) f) (mark_from f) (four-marks f f_wide) (four f f_wide))
      ∙ ap (λ xs. first_failed (marks_tests sheet xs)) (sym numbers_in_lem)

  -- a file of one mark is read and tested as the format has it
  mark_reads : reads mark_format l ≡ decided (first_failed (marks_tests sheet (numbers_in 4 l))) (mark_at (numbers_in 4 l) 0)
  unfolding reads mark_format mark_at
  mark_reads = ap₂ (λ k m. decided k m) mark_tests (ap (λ ms. get_or ms 0 no_mark) (sym mark_is))

-- ---- a file of marks

one_record : (m : Mark) → record_of mark_format m ≡ for_each double_bytes (mark_numbers m)
one_record m = packs m

records_are : (ms : List Mark) → for_each (record_of mark_format) ms ≡ for_each double_bytes (for_each mark_numbers ms)
unfolding for_each
records_are [] = refl
records_are (m ∷ ms) = ap₂ (λ x y. x ++ y) (one_record m) (records_are ms) ∙ sym (for_each-append double_bytes (mark_numbers m) (for_each mark_numbers ms))

-- doubles one after the other, packed and unpacked
module _ (n : ℕ) where
  abbrev even : List ℕ
  even = replicate n 8

  doubles_packed : (xs : List Float) → length xs ≡ n → for_each double_bytes xs ≡ packed even (map (to_bits binary64) xs)
  doubles_packed xs h =
      sym (bits-written xs)
      ∙ sym (packed_even 8 (map (to_bits binary64) xs))
      ∙ ap (λ k. packed (replicate k 8) (map (to_bits binary64) xs)) (length-map xs (to_bits binary64) ∙ h)

  doubles_back : (xs : List Float) → length xs ≡ n → T (every (fits binary64) xs) → doubles_of (for_each double_bytes xs) ≡ xs
  unfolding doubles_of
  doubles_back xs h t =
      let bits = map (to_bits binary64) xs in
      let any : Fit (replicate (length xs) 8) bits = rw (append-nil bits, append-nil {A = ℕ} (replicate (length xs) 8)) at (fields_fit xs t none) in
      let fit : Fit even bits = subst (λ (k : ℕ). Fit (replicate k 8) bits) h any in
      let long : length (for_each double_bytes xs) / 8 ≡ n = rw (for_each-length double_bytes 8 double_wide xs, h) (omega arith) in
      ap (map (of_bits binary64)) (longs_unpacked n (for_each double_bytes xs) long ∙ ap (unpacked even) (doubles_packed xs h) ∙ unpacked-packed fit)
      ∙ numbers_back xs t

  doubles_again : (l : List ℕ) → length l ≡ 8 * n → T (all_bytes l) → all_finite (doubles_of l) ≡ true → for_each double_bytes (doubles_of l) ≡ l
  unfolding doubles_of
  doubles_again l h t finite =
      let long : length l ≡ size_of even = h ∙ sym (even_size 8 n) in
      let fit : Fit even (unpacked even l) = unpacked-fit even l long t in
      let same : longs_of l ≡ unpacked even l = longs_unpacked n l (rw h (omega arith)) in
      let wide : length (doubles_of l) ≡ n = length-map (longs_of l) (of_bits binary64) ∙ ap length same ∙ fit_length fit ∙ length-replicate n 8 in
      doubles_packed (doubles_of l) wide
      ∙ ap (λ bits. packed even (map (to_bits binary64) (map (of_bits binary64) bits))) same
      ∙ ap (packed even) (bits_again n (unpacked even l) fit (ap (λ bits. all_finite (map (of_bits binary64) bits)) (sym same) ∙ finite))
      ∙ packed-unpacked even l long t

numbers_wide : (ms : List Mark) → length (for_each mark_numbers ms) ≡ 4 * length ms
unfolding mark_numbers
numbers_wide ms = for_each-length mark_numbers 4 (λ m. refl) ms

marks_again : (ms : List Mark) → marks_of (for_each mark_numbers ms) ≡ ms
unfolding marks_of for_each mark_numbers
marks_again [] = refl
marks_again (m ∷ ms) = ap (λ rest. m ∷ rest) (marks_again ms)

-- and the numbers of whole marks are their marks' numbers
marks_back : (xs : List Float) → length xs % 4 ≡ 0 → for_each mark_numbers (marks_of xs) ≡ xs
unfolding for_each mark_numbers marks_of
marks_back [] h = refl
marks_back (x ∷ []) h = absurd (omega (arith, h))
marks_back (x ∷ y ∷ []) h = absurd (omega (arith, h))
marks_back (x ∷ y ∷ u ∷ []) h = absurd (omega (arith, h))
marks_back (x ∷ y ∷ u ∷ v ∷ rest) h = ap (λ t. x ∷ y ∷ u ∷ v ∷ t) (marks_back rest (omega (arith, h)))

held-numbers : (ms : List Mark) → T (every (λ m. every (fits binary64) (mark_numbers m)) ms) → T (every (fits binary64) (for_each mark_numbers ms))
unfolding for_each
held-numbers [] t = tt
held-numbers (m ∷ ms) t =
    subst T (sym (every_append (fits binary64) (mark_numbers m) (for_each mark_numbers ms)))
    (and_i (every (fits binary64) (mark_numbers m)) (every (fits binary64) (for_each mark_numbers ms)) (and_l (every (fits binary64) (mark_numbers m)) _ t) (held-numbers ms (and_r (every (fits binary64) (mark_numbers m)) _ t)))

pub mark_reader : MarkReader
mark_reader = record {
  one = mark_reads;
  back = λ ms t.
      let numbers = for_each mark_numbers ms in
      let wide : length (for_each double_bytes numbers) ≡ 8 * (4 * length ms) = for_each-length double_bytes 8 double_wide numbers ∙ ap (λ n. 8 * n) (numbers_wide ms) in
      let read : numbers_in 4 (for_each double_bytes numbers) ≡ numbers =
      numbers-whole 4 (for_each double_bytes numbers) (rw wide (omega arith)) ∙ doubles_back (length numbers) numbers refl (held-numbers ms t)
      in
      ap (λ l. marks_of (numbers_in 4 l)) (records_are ms) ∙ ap marks_of read ∙ marks_again ms;
  made = λ l t h w.
      records_are (marks_of (numbers_in 4 l))
      ∙ ap (for_each double_bytes) (marks_back (numbers_in 4 l) (rw (numbers-length 4 l) (omega arith)) ∙ numbers-whole 4 l h)
      ∙ doubles_again (length l / 8) l (omega (arith, h)) t (ap all_finite (sym (numbers-whole 4 l h)) ∙ within_finite farthest (numbers_in 4 l) w);
}
