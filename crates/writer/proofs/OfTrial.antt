-- A trial's writer: its ways out, and what its format keeps. Assumes nothing.
use mathlib.Core.Path.{◌≡◌, refl, sym, ap, ap₂, subst, ◌∙◌}
use mathlib.Core.Bool.{Bool, true, false, not, cond, ◌&&◌, ◌||◌, true≢false}
use mathlib.Core.List.{List, [], ◌∷◌, ◌++◌, map, append-nil}
use Prim.Native.Nat.{ℕ, zero, suc, ◌+◌, ◌^◌, ◌≤◌, ◌<◌}
use native.Mathlib.Omega.{arith}
use borrow.Author.Tests.{not-false, eqb-true, eq-eqb}
use borrow.Rule.Slice.PartMut.{mid_of, put_mid}
use lib.Dec.{T, leb, eqb, leb→le, eqb→eq}
use lib.ListN.{length, get_or, take, drop, replicate, length-append, length-drop, length-map, take-append-drop}
use lib.Seq.{take_at, drop_at, take_all, drop-cons, drop-drop}
use native.Mathlib.Nat.{mod-eq_of_lt}
use Rattle.std.proofs.lemmas.List.Folds.{list_all-map}
use lib.Ieee.{Float, nan, binary64, fits, of_bits, to_bits}
use Rattle.rule.specs.Refusal.{RECORD}
use Rattle.rule.specs.Order.{Test, first_failed}
use Rattle.rule.specs.Lists.{every, for_each, filled}
use Rattle.rule.proofs.Tests.{is_test}
use Rattle.rule.proofs.Lists.{places_at, one_by_one, for_each-append, for_each-length}
use Rattle.rule.proofs.Order.{numbered, first_passed}
use Rattle.numbers.specs.Constants.{zero'}
use Rattle.numbers.specs.Finite.{all_finite}
use Rattle.estimator.specs.Numbers.{doubles_formed}
use Rattle.sheet.specs.Distance.{model_numbers}
use Rattle.sheet.specs.Sheets.{sheet}
use Rattle.sheet.specs.declared.model.Model.{Model}
use Rattle.book.specs.Score.{Trial, unfitted, fitted, refitted}
use Rattle.fields.specs.Fields.{bytes_of, double_bytes}
use Rattle.fields.specs.Packing.{size_of, packed}
use Rattle.fields.proofs.Writing.{double_wide, laid_none, laid_more, laid_all}
use Rattle.fields.proofs.Packing.{Fit, none, more, fit_length, fit-taken, fit-left, packed_even}
use Rattle.records.specs.Trial.{trial_layout, fit_bits, refit_bits, model_from, marked, marks_formed, numbers_formed, parts_formed, trial_sound, trial_from}
use Rattle.records.proofs.Placed.{trial_size}
use Rattle.writer.specs.Format.{record_of, writer_answer, Faithful}
use Rattle.writer.specs.Formats.{TrialNumbers, trial_numbers, trial_fields, nine_each, TrialRepresentable, trial_format}
use Rattle.writer.proofs.Order.{answer_by, answer_is}
use Rattle.std.proofs.lemmas.Bool.{and_parts}
use Rattle.records.proofs.Bits.{by_places}
use Rattle.writer.proofs.Bits.{numbers_back, fields_fit, bits_again, zeros, zero_numbers, zeros_again, bits-written}
use Rattle.writer.proofs.Faith.{Laws, faithful}

-- ---- numbers, marked or not

-- the numbers of a lent list are doubles
abbrev Doubles : List Float → Type 0
Doubles l = (i : ℕ) → T (fits binary64 (get_or l i nan))

by_bits : (mark : Bool) (l : List Float) → Doubles l → numbers_formed mark (map (to_bits binary64) l) ≡ doubles_formed mark l
unfolding numbers_formed doubles_formed
by_bits true l h = ap all_finite (numbers_back l (by_places (fits binary64) l nan h))
by_bits false l h = list_all-map (λ b. eqb b 0) (to_bits binary64) l

-- ---- what stands in the fields

format_size : size_of trial_format.layout ≡ 152
unfolding trial_format
format_size = trial_size 9

module _ (n : TrialNumbers) (a : length n.fit ≡ 9) (b : length n.refit ≡ 9) where
  abbrev fit : List ℕ
  fit = map (to_bits binary64) n.fit

  abbrev refit : List ℕ
  refit = map (to_bits binary64) n.refit

  fit_wide : length fit ≡ 9
  fit_wide = length-map n.fit (to_bits binary64) ∙ a

  refit_wide : length refit ≡ 9
  refit_wide = length-map n.refit (to_bits binary64) ∙ b

  fit_there : fit_bits 9 (trial_fields n) ≡ fit
  unfolding fit_bits trial_fields
  fit_there = take_at fit refit 9 fit_wide

  refit_there : refit_bits 9 (trial_fields n) ≡ refit
  unfolding refit_bits trial_fields
  refit_there = ap (take 9) (drop_at fit refit 9 fit_wide) ∙ take_all 9 refit (rw refit_wide (omega arith))

  module _ (p : Doubles n.fit) (q : Doubles n.refit) where
    sound_is : trial_sound 9 (trial_fields n) ≡ parts_formed n.fit_mark n.refit_mark n.fit n.refit
    unfolding trial_sound marked trial_fields parts_formed
    sound_is = rw (fit_there, refit_there, by_bits (eqb n.fit_mark 1) n.fit p, by_bits (eqb n.refit_mark 1) n.refit q)

-- ---- the writer, by what its code asks

abbrev form : List ℕ → Test
form f = record { fails = not (trial_sound 9 f); number = RECORD }

module _ (n : TrialNumbers) (entry : List ℕ) (p : Doubles n.fit) (q : Doubles n.refit) where
  abbrev sound : Bool
  sound = parts_formed n.fit_mark n.refit_mark n.fit n.refit

  abbrev formed : Bool
  formed = eqb (length n.fit) 9 && (eqb (length n.refit) 9 && sound)

  here : first_failed (trial_format.asks n ++ trial_format.tests (trial_format.fields n)) ≡ cond formed 0 RECORD
  unfolding trial_format nine_each first_failed
  here = by_fit (eqb (length n.fit) 9) refl
    where
      last : (b : Bool) → cond (not b) RECORD 0 ≡ cond b 0 RECORD
      last true = refl
      last false = refl

      by_refit : length n.fit ≡ 9 → (b : Bool) → eqb (length n.refit) 9 ≡ b
          → cond (not b) RECORD (cond (not (trial_sound 9 (trial_fields n))) RECORD 0) ≡ cond (b && sound) 0 RECORD
      by_refit a true h = rw (sound_is n a (eqb-true (length n.refit) 9 h) p q) (last sound)
      by_refit a false h = refl

      by_fit : (b : Bool) → eqb (length n.fit) 9 ≡ b
          → cond (not (b && eqb (length n.refit) 9)) RECORD (cond (not (trial_sound 9 (trial_fields n))) RECORD 0) ≡ cond (b && (eqb (length n.refit) 9 && sound)) 0 RECORD
      by_fit true h = by_refit (eqb-true (length n.fit) 9 h) (eqb (length n.refit) 9) refl
      by_fit false h = refl

  above : T (numbered (trial_format.asks n ++ trial_format.tests (trial_format.fields n)))
  unfolding trial_format numbered nine_each
  above = tt

  pub trial_answered : writer_answer trial_format n entry ≡ answer_by (cond formed 0 RECORD) 152 (length entry)
  trial_answered = answer_is trial_format n entry above ∙ rw (here, format_size)

-- ---- the bytes

doubles_wide : (l : List Float) → length l ≡ 9 → length (for_each double_bytes l) ≡ 72
doubles_wide l h = for_each-length double_bytes 8 double_wide l ∙ rw h

module _ (n : TrialNumbers) (a : length n.fit ≡ 9) (b : length n.refit ≡ 9) (h : n.fit_mark < 256) (g : n.refit_mark < 256) where
  -- the marks and six zero bytes, as they are copied
  abbrev front : List ℕ
  front = n.fit_mark ∷ n.refit_mark ∷ 0 ∷ 0 ∷ 0 ∷ 0 ∷ 0 ∷ 0 ∷ []

  -- the eighteen numbers
  numbers-packed : packed (replicate 18 8) (fit n a b ++ refit n a b) ≡ for_each double_bytes n.fit ++ for_each double_bytes n.refit
  numbers-packed =
      let wide : length (fit n a b ++ refit n a b) ≡ 18 = length-append (fit n a b) (refit n a b) ∙ ap₂ (λ j k. j + k) (fit_wide n a b) (refit_wide n a b) in
      ap (λ k. packed (replicate k 8) (fit n a b ++ refit n a b)) (sym wide)
      ∙ packed_even 8 (fit n a b ++ refit n a b)
      ∙ for_each-append (bytes_of 8) (fit n a b) (refit n a b)
      ∙ ap₂ (λ x y. x ++ y) (bits-written n.fit) (bits-written n.refit)

  packs : front ++ for_each double_bytes n.fit ++ for_each double_bytes n.refit ≡ record_of trial_format n
  unfolding record_of trial_format trial_layout trial_fields packed bytes_of
  packs = rw (mod-eq_of_lt h, mod-eq_of_lt g, numbers-packed)

  -- the three parts, one after the other
  pub trial_laid : (entry : List ℕ) → 152 ≤ length entry → {x y z : List ℕ} → x ≡ filled front (mid_of 0 8 entry) → y ≡ filled (for_each double_bytes n.fit) (mid_of 8 72 (put_mid 0 8 entry x))
      → z ≡ filled (for_each double_bytes n.refit) (mid_of 80 72 (put_mid 8 72 (put_mid 0 8 entry x) y))
      → put_mid 80 72 (put_mid 8 72 (put_mid 0 8 entry x) y) z ≡ filled (record_of trial_format n) entry
  trial_laid entry room d e f =
      let i : length (for_each double_bytes n.fit) ≡ 72 = doubles_wide n.fit a in
      let j : length (for_each double_bytes n.refit) ≡ 72 = doubles_wide n.refit b in
      let both : length (front ++ for_each double_bytes n.fit) ≡ 80 = length-append front (for_each double_bytes n.fit) ∙ rw i in
      let all : length (front ++ for_each double_bytes n.fit ++ for_each double_bytes n.refit) ≡ 152 =
      length-append (front ++ for_each double_bytes n.fit) (for_each double_bytes n.refit) ∙ rw (both, j)
      in
      let one = laid_more entry (laid_none entry) (omega arith) 0 8 front refl refl (omega arith) d in
      let two = laid_more entry one (omega arith) 8 80 (for_each double_bytes n.fit) refl (rw i) (omega arith) e in
      let three = laid_more entry two (rw both (omega arith)) 80 152 (for_each double_bytes n.refit) both (rw j) room f in
      laid_all entry three (rw all room) ∙ ap (λ l. filled l entry) packs

-- ---- what the format keeps

-- marks in order are one of three pairs
data Ordered : ℕ → ℕ → Type 0 where
  neither : Ordered 0 0
  alone : Ordered 1 0
  both : Ordered 1 1

at_most_one : (a b : ℕ) → a ≤ 1 → b ≤ 1 → (eqb a 1 || not (eqb b 1)) ≡ true → Ordered a b
at_most_one zero zero h g e = neither
at_most_one zero (suc zero) h g e = absurd (true≢false (sym e))
at_most_one zero (suc (suc b)) h g e = absurd (omega (arith, g))
at_most_one (suc zero) zero h g e = alone
at_most_one (suc zero) (suc zero) h g e = both
at_most_one (suc zero) (suc (suc b)) h g e = absurd (omega (arith, g))
at_most_one (suc (suc a)) b h g e = absurd (omega (arith, h))

ordered : (a b : ℕ) → marks_formed a b ≡ true → Ordered a b
unfolding marks_formed
ordered a b h =
    let p = and_parts (leb a 1) (leb b 1 && (eqb a 1 || not (eqb b 1))) h in
    let q = and_parts (leb b 1) (eqb a 1 || not (eqb b 1)) p.1 in
    at_most_one a b (leb→le a 1 (is_test (leb a 1) p.0)) (leb→le b 1 (is_test (leb b 1) q.0)) q.1

-- what a sound record's fields say
module _ (f : List ℕ) (sound : trial_sound 9 f ≡ true) where
  parts : (marks_formed (get_or f 0 0) (get_or f 1 0) ≡ true) × (get_or f 2 0 ≡ 0) × (numbers_formed (eqb (get_or f 0 0) 1) (fit_bits 9 f) ≡ true) × (numbers_formed (eqb (get_or f 1 0) 1) (refit_bits 9 f) ≡ true)
  unfolding trial_sound marked
  parts =
      let p = and_parts (marks_formed (get_or f 0 0) (get_or f 1 0)) _ sound in
      let q = and_parts (eqb (get_or f 2 0) 0) _ p.1 in
      let r = and_parts (numbers_formed (eqb (get_or f 0 0) 1) (fit_bits 9 f)) (numbers_formed (eqb (get_or f 1 0) 1) (refit_bits 9 f)) q.1 in
      (p.0, eqb→eq (get_or f 2 0) 0 (is_test (eqb (get_or f 2 0) 0) q.0), r.0, r.1)

-- the trial of two marks and the bits of two lists
abbrev trial_by : (a b : ℕ) (x y : List ℕ) → Trial Model
trial_by a b x y = cond (eqb b 1) (refitted (model_from sheet x) (model_from sheet y)) (cond (eqb a 1) (fitted (model_from sheet x)) unfitted)

-- ---- numbers come back

nine : (bits : List ℕ) → length bits ≡ 9 → model_numbers (model_from sheet bits) ≡ map (of_bits binary64) bits
unfolding model_numbers model_from places_at
nine bits size = sym (one_by_one 9 0 (map (of_bits binary64) bits) (of_bits binary64 0) (length-map bits (of_bits binary64) ∙ size))

module _ (l : List Float) (size : length l ≡ 9) (doubles : T (every (fits binary64) l)) where
  marked_back : model_numbers (model_from sheet (map (to_bits binary64) l)) ≡ l
  marked_back = nine (map (to_bits binary64) l) (length-map l (to_bits binary64) ∙ size) ∙ numbers_back l doubles

  unmarked_back : numbers_formed false (map (to_bits binary64) l) ≡ true → replicate 9 zero' ≡ l
  unfolding numbers_formed
  unmarked_back h = ap (λ k. replicate k zero') (sym size) ∙ sym (zero_numbers l doubles h)

abbrev handed : (a b : ℕ) (k l : List Float) → TrialNumbers
handed a b k l = record { fit_mark = a; refit_mark = b; fit = k; refit = l }

numbers_of : (a b : ℕ) → Ordered a b → (k l : List Float) → length k ≡ 9 → length l ≡ 9 → T (every (fits binary64) k) → T (every (fits binary64) l)
    → numbers_formed (eqb a 1) (map (to_bits binary64) k) ≡ true → numbers_formed (eqb b 1) (map (to_bits binary64) l) ≡ true
    → trial_numbers (trial_by a b (map (to_bits binary64) k) (map (to_bits binary64) l)) ≡ handed a b k l
unfolding trial_numbers
numbers_of a b neither k l i j d e p q = ap₂ (handed 0 0) (unmarked_back k i d p) (unmarked_back l j e q)
numbers_of a b alone k l i j d e p q = ap₂ (handed 1 0) (marked_back k i d) (unmarked_back l j e q)
numbers_of a b both k l i j d e p q = ap₂ (handed 1 1) (marked_back k i d) (marked_back l j e)

sound_of : (f : List ℕ) → first_failed (form f ∷ []) ≡ 0 → trial_sound 9 f ≡ true
sound_of f h = not-false (trial_sound 9 f) (first_passed (form f) [] tt h).0

trial_back : (n : TrialNumbers) → TrialRepresentable n → first_failed (form (trial_fields n) ∷ []) ≡ 0 → trial_numbers (trial_from sheet (trial_fields n)) ≡ n
unfolding TrialRepresentable trial_from marked trial_fields
trial_back n h passed =
    let p = parts (trial_fields n) (sound_of (trial_fields n) passed) in
    let x = fit_there n h.2 h.3 in
    let y = refit_there n h.2 h.3 in
    ap₂ (λ c d. trial_numbers (trial_by n.fit_mark n.refit_mark c d)) x y
    ∙ numbers_of n.fit_mark n.refit_mark (ordered n.fit_mark n.refit_mark p.0) n.fit n.refit h.2 h.3 h.4 h.5
    (ap (numbers_formed (eqb n.fit_mark 1)) (sym x) ∙ p.2) (ap (numbers_formed (eqb n.refit_mark 1)) (sym y) ∙ p.3)

-- ---- fields come back

module _ (bits : List ℕ) (fit : Fit (replicate 9 8) bits) where
  marked_again : numbers_formed true bits ≡ true → map (to_bits binary64) (model_numbers (model_from sheet bits)) ≡ bits
  unfolding numbers_formed
  marked_again h = ap (map (to_bits binary64)) (nine bits (fit_length fit)) ∙ bits_again 9 bits fit h

  unmarked_again : numbers_formed false bits ≡ true → map (to_bits binary64) (replicate 9 zero') ≡ bits
  unfolding numbers_formed
  unmarked_again h = zeros_again 9 ∙ ap (λ k. replicate k 0) (sym (fit_length fit)) ∙ sym (zeros bits h)

fields_of_lem : (a b : ℕ) → Ordered a b → (x y : List ℕ) → Fit (replicate 9 8) x → Fit (replicate 9 8) y → numbers_formed (eqb a 1) x ≡ true → numbers_formed (eqb b 1) y ≡ true
    → trial_fields (trial_numbers (trial_by a b x y)) ≡ a ∷ b ∷ 0 ∷ (x ++ y)
unfolding trial_numbers trial_fields
fields_of_lem a b neither x y i j p q = ap₂ (λ u w. 0 ∷ 0 ∷ 0 ∷ (u ++ w)) (unmarked_again x i p) (unmarked_again y j q)
fields_of_lem a b alone x y i j p q = ap₂ (λ u w. 1 ∷ 0 ∷ 0 ∷ (u ++ w)) (marked_again x i p) (unmarked_again y j q)
fields_of_lem a b both x y i j p q = ap₂ (λ u w. 1 ∷ 1 ∷ 0 ∷ (u ++ w)) (marked_again x i p) (marked_again y j q)

-- the fields, part by part
module _ (f : List ℕ) (size : length f ≡ 21) where
  split : f ≡ get_or f 0 0 ∷ get_or f 1 0 ∷ get_or f 2 0 ∷ (fit_bits 9 f ++ refit_bits 9 f)
  unfolding fit_bits refit_bits
  split =
      drop-cons f 0 0 (omega arith)
      ∙ ap (λ r. get_or f 0 0 ∷ r) (drop-cons f 1 0 (omega arith) ∙ ap (λ r. get_or f 1 0 ∷ r) (drop-cons f 2 0 (omega arith) ∙ ap (λ r. get_or f 2 0 ∷ r) numbers))
    where
      numbers : drop 3 f ≡ take 9 (drop 3 f) ++ take 9 (drop 12 f)
      numbers =
          sym (take-append-drop 9 (drop 3 f))
          ∙ ap (λ r. take 9 (drop 3 f) ++ r) (drop-drop 9 3 f ∙ sym (take_all 9 (drop 12 f) (rw (length-drop 12 f) (omega (arith, size)))))

trial_again : (f : List ℕ) → Fit (trial_layout 9) f → first_failed (form f ∷ []) ≡ 0 → trial_fields (trial_numbers (trial_from sheet f)) ≡ f
unfolding trial_from marked fit_bits refit_bits trial_layout
trial_again f fit passed =
    let p = parts f (sound_of f passed) in
    fields_of_lem (get_or f 0 0) (get_or f 1 0) (ordered (get_or f 0 0) (get_or f 1 0) p.0) (fit_bits 9 f) (refit_bits 9 f) (fit-taken 9 (fit-left 3 fit)) (fit-taken 9 (fit-left 12 fit)) p.2 p.3
    ∙ ap (λ filler. get_or f 0 0 ∷ get_or f 1 0 ∷ filler ∷ (fit_bits 9 f ++ refit_bits 9 f)) (sym p.1)
    ∙ sym (split f (fit_length fit))

nine_read : (t : Trial Model) → first_failed (nine_each (trial_numbers t) ∷ []) ≡ 0
unfolding first_failed nine_each trial_numbers model_numbers
nine_read unfitted = refl
nine_read (fitted m) = refl
nine_read (refitted m k) = refl

trial-fit : (n : TrialNumbers) → TrialRepresentable n → Fit (trial_layout 9) (trial_fields n)
unfolding TrialRepresentable trial_layout trial_fields
trial-fit n h =
    let filler : 0 < 256 ^ 6 = omega arith in
    let fit = map (to_bits binary64) n.fit in
    let refit = map (to_bits binary64) n.refit in
    let any = fields_fit n.fit h.4 (fields_fit n.refit h.5 none) in
    let one = subst (λ (k : ℕ). Fit (replicate k 8 ++ (replicate (length n.refit) 8 ++ [])) (fit ++ (refit ++ []))) h.2 any in
    let two = subst (λ (k : ℕ). Fit (replicate 9 8 ++ (replicate k 8 ++ [])) (fit ++ (refit ++ []))) h.3 one in
    more h.0 (more h.1 (more filler (subst (λ (l : List ℕ). Fit (replicate 18 8) (fit ++ l)) (append-nil refit) two)))

nine_held : (n : TrialNumbers) → TrialRepresentable n → first_failed (nine_each n ∷ []) ≡ 0
unfolding TrialRepresentable nine_each first_failed
nine_held n h = rw (eq-eqb (length n.fit) 9 h.2, eq-eqb (length n.refit) 9 h.3)

trial_laws : Laws trial_format
unfolding trial_format numbered nine_each
trial_laws =
    record {
      above_0 = tt;
      asks_above_0 = λ n. tt;
      tests_above_0 = λ f. tt;
      fit = trial-fit;
      asked = nine_held;
      back = trial_back;
      again = λ f fit passed. (trial_again f fit passed, nine_read (trial_from sheet f));
    }

pub trial_faithful : Faithful trial_format
trial_faithful = faithful trial_format trial_laws
