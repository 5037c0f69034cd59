-- Where the fields of an options record and of a trial's record stand in its bytes. Assumes nothing.
use mathlib.Core.Path.{◌≡◌, refl, sym, ap, ◌∙◌}
use mathlib.Core.Bool.{Bool, true, false, cond}
use mathlib.Core.List.{List, map}
use Prim.Native.Nat.{ℕ, suc, ◌+◌, ◌*◌, ◌/◌, ◌≤◌, ◌<◌}
use native.Mathlib.Omega.{arith}
use borrow.Author.Tests.{eq-eqb, ne_eqb}
use lib.Dec.{eqb}
use lib.ListN.{length, get_or, take, drop}
use lib.Seq.{drop-drop, get_or-take}
use lib.Ieee.{binary64, of_bits}
use Rattle.rule.specs.Lists.{first_parts, parts_of}
use Rattle.numbers.specs.Constants.{one}
use Rattle.fields.specs.Fields.{little_endian, fields_of, longs_of, byte_at, word_at, double_at, zero_bytes}
use Rattle.fields.specs.Packing.{size_of, unpacked}
use Rattle.fields.proofs.Reading.{word_spelled, long_spelled}
use Rattle.fields.proofs.Packing.{field_placed, byte_spelled, zero_spelled, even_size, unpacked_even}
use Rattle.records.specs.Options.{short_layout, options_layout, layout_by, fields_in, ratio_from}
use Rattle.records.specs.Trial.{trial_layout, fit_bits, refit_bits}

-- ---- options

pub short_size : size_of short_layout ≡ 32
unfolding size_of short_layout
short_size = refl

pub options_size : size_of options_layout ≡ 40
unfolding size_of short_layout options_layout
options_size = refl

-- both lengths begin with the same fields
same_front : (short : Bool) (l : List ℕ) → take 6 (unpacked (cond short short_layout options_layout) l) ≡ unpacked short_layout l
unfolding unpacked short_layout options_layout
same_front true l = refl
same_front false l = refl

module _ (l : List ℕ) (wide : 32 ≤ length l) where
  abbrev options : List ℕ
  options = fields_in l

  front : (i : ℕ) → i < 6 → little_endian (take (get_or short_layout i 0) (drop (size_of (take i short_layout)) l)) ≡ get_or options i 0
  unfolding fields_in layout_by short_layout
  front i h = sym (field_placed short_layout l i h) ∙ ap (λ f. get_or f i 0) (sym (same_front (eqb (length l) (size_of short_layout)) l)) ∙ get_or-take 6 options i 0 h

  pub thresh_placed : double_at l 0 ≡ of_bits binary64 (get_or options 0 0)
  unfolding double_at size_of short_layout
  thresh_placed = ap (of_bits binary64) (long_spelled l 0 (omega arith) ∙ front 0 (omega arith))

  pub confidence_placed : double_at l 1 ≡ of_bits binary64 (get_or options 1 0)
  unfolding double_at size_of short_layout
  confidence_placed = ap (of_bits binary64) (long_spelled l 1 (omega arith) ∙ front 1 (omega arith))

  pub iters_placed : word_at l 4 ≡ get_or options 2 0
  unfolding size_of short_layout
  iters_placed = word_spelled l 4 (omega arith) ∙ front 2 (omega arith)

  pub inliers_placed : word_at l 5 ≡ get_or options 3 0
  unfolding size_of short_layout
  inliers_placed = word_spelled l 5 (omega arith) ∙ front 3 (omega arith)

  pub refit_placed : byte_at l 24 ≡ get_or options 4 0
  unfolding size_of short_layout
  refit_placed = byte_spelled l 24 (omega arith) ∙ front 4 (omega arith)

  pub filler_placed : zero_bytes 25 32 l ≡ eqb (get_or options 5 0) 0
  unfolding size_of short_layout
  filler_placed = zero_spelled 25 7 l (omega arith) ∙ ap (λ n. eqb n 0) (front 5 (omega arith))

-- the ratio behind them, where the record has one
pub ratio-none : (l : List ℕ) → length l ≡ 32 → one ≡ ratio_from (drop 6 (fields_in l))
unfolding fields_in layout_by ratio_from unpacked short_layout
ratio-none l size = rw (short_size, eq-eqb (length l) 32 size)

pub ratio_placed : (l : List ℕ) → length l ≡ 40 → double_at l 4 ≡ ratio_from (drop 6 (fields_in l))
unfolding fields_in layout_by ratio_from unpacked short_layout options_layout double_at size_of
ratio_placed l size =
    let far : length l ≡ 32 → ⊥ = λ e. omega (arith, e, size) in
    rw (short_size, ne_eqb (length l) 32 far) (ap (of_bits binary64) (long_spelled l 4 (omega (arith, size)) ∙ sym (field_placed options_layout l 6 (omega arith))))

-- ---- a trial

module _ (k : ℕ) where
  pub trial_size : size_of (trial_layout k) ≡ 8 + 16 * k
  unfolding size_of trial_layout
  trial_size = omega (arith, even_size 8 (2 * k))

  module _ (l : List ℕ) (size : length l ≡ 8 + 16 * k) where
    abbrev trial : List ℕ
    trial = unpacked (trial_layout k) l

    pub fit_placed : byte_at l 0 ≡ get_or trial 0 0
    unfolding size_of trial_layout
    fit_placed = byte_spelled l 0 (omega arith) ∙ sym (field_placed (trial_layout k) l 0 (omega arith))

    pub refit_mark_placed : byte_at l 1 ≡ get_or trial 1 0
    unfolding size_of trial_layout
    refit_mark_placed = byte_spelled l 1 (omega arith) ∙ sym (field_placed (trial_layout k) l 1 (omega arith))

    pub trial_filler_placed : zero_bytes 2 8 l ≡ eqb (get_or trial 2 0) 0
    unfolding size_of trial_layout
    trial_filler_placed = zero_spelled 2 6 l (omega arith) ∙ ap (λ n. eqb n 0) (sym (field_placed (trial_layout k) l 2 (omega arith)))

    -- the numbers are the eight-byte fields from the second on
    numbers : drop 3 trial ≡ drop 1 (longs_of l)
    unfolding unpacked trial_layout longs_of fields_of parts_of first_parts
    numbers =
        let e : length l / 8 ≡ suc (2 * k) = omega (arith, size) in
        rw e (unpacked_even 8 (2 * k) (drop 6 (drop 1 (drop 1 l))) ∙ ap (λ m. map little_endian (first_parts 8 (2 * k) m)) (ap (drop 6) (drop-drop 1 1 l) ∙ drop-drop 6 2 l))

    pub fit_bits_placed : fit_bits k trial ≡ take k (drop 1 (longs_of l))
    unfolding fit_bits
    fit_bits_placed = ap (take k) numbers

    pub refit_bits_placed : refit_bits k trial ≡ take k (drop (1 + k) (longs_of l))
    unfolding refit_bits
    refit_bits_placed = ap (take k) (sym (drop-drop k 3 trial) ∙ ap (drop k) numbers ∙ drop-drop k 1 (longs_of l))
