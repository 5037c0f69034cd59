-- A mark's writer: its ways out, and what its format keeps. Assumes nothing.
use mathlib.Core.Path.{◌≡◌, refl, sym, ap, ◌∙◌}
use mathlib.Core.Bool.{true, ◌&&◌}
use mathlib.Core.List.{List, [], ◌∷◌, ◌++◌, map}
use Prim.Native.Nat.{ℕ}
use borrow.Author.Tests.{not-false}
use lib.Dec.{T}
use lib.ListN.{length, get_or}
use lib.Ieee.{Float, nan, binary64, fits, le, of_bits, to_bits}
use Rattle.rule.specs.Order.{first_failed}
use Rattle.rule.specs.Lists.{every, for_each}
use Rattle.rule.proofs.Order.{numbered, first_passed}
use Rattle.rule.proofs.Lists.{places_at, one_by_one}
use Rattle.numbers.specs.Constants.{farthest}
use Rattle.numbers.specs.Finite.{abs_of, is_finite, all_finite, within}
use Rattle.estimator.specs.Marks.{point, all_within}
use Rattle.sheet.specs.Marks.{mark_numbers}
use Rattle.sheet.specs.declared.marks.Mark.{Mark}
use Rattle.fields.specs.Fields.{double_bytes}
use Rattle.fields.specs.Packing.{size_of, packed}
use Rattle.fields.proofs.Packing.{Fit, none, fit_length}
use Rattle.writer.specs.Formats.{mark_layout, mark_from, MarkRepresentable, mark_format}
use Rattle.writer.specs.Format.{record_of, writer_answer, Faithful}
use Rattle.writer.proofs.Order.{answer_by, answer_is}
use Rattle.std.proofs.lemmas.Bool.{and_parts}
use Rattle.writer.proofs.Bits.{numbers_back, fields_fit, bits_again}
use Rattle.writer.proofs.Faith.{Laws, faithful}

-- ---- the writer, by what its code asks

pub mark_size : size_of mark_format.layout ≡ 32
unfolding mark_format mark_layout size_of
mark_size = refl

mark_held : (m : Mark) → fits binary64 m.x ≡ true → fits binary64 m.y ≡ true → fits binary64 m.u ≡ true → fits binary64 m.v ≡ true → MarkRepresentable m
unfolding MarkRepresentable mark_numbers
mark_held m p q r s = rw (p, q, r, s) tt

module _ (m : Mark) where
  pub packs : record_of mark_format m ≡ for_each double_bytes (mark_numbers m)
  unfolding record_of mark_format mark_layout packed double_bytes for_each mark_numbers
  packs = refl

  above : T (numbered (mark_format.asks m ++ mark_format.tests (mark_format.fields m)))
  unfolding mark_format numbered point
  above = tt

  module _ (entry : List ℕ) (p : fits binary64 m.x ≡ true) (q : fits binary64 m.y ≡ true) (r : fits binary64 m.u ≡ true) (s : fits binary64 m.v ≡ true) where
    here : first_failed (mark_format.asks m ++ mark_format.tests (mark_format.fields m)) ≡ first_failed (point (mark_numbers m) ∷ [])
    unfolding mark_format MarkRepresentable
    here = ap (λ l. first_failed (point l ∷ [])) (numbers_back (mark_numbers m) (mark_held m p q r s))

    pub mark_answer : writer_answer mark_format m entry ≡ answer_by (first_failed (point (mark_numbers m) ∷ [])) 32 (length entry)
    mark_answer = answer_is mark_format m entry above ∙ rw (here, mark_size)

-- ---- what the format keeps

pub within_finite : (limit : Float) (l : List Float) → all_within limit l ≡ true → all_finite l ≡ true
unfolding all_within all_finite within
within_finite limit [] h = refl
within_finite limit (x ∷ l) h =
    let p = and_parts (is_finite x && le (abs_of x) limit) (every (within limit) l) h in
    rw ((and_parts (is_finite x) (le (abs_of x) limit) p.0).0, within_finite limit l p.1)

pub four : (bits : List ℕ) → length bits ≡ 4 → mark_numbers (mark_from bits) ≡ map (of_bits binary64) bits
unfolding mark_numbers mark_from places_at
four bits size = ap (map (of_bits binary64)) (sym (one_by_one 4 0 bits 0 size))

mark_back : (m : Mark) → MarkRepresentable m → mark_from (map (to_bits binary64) (mark_numbers m)) ≡ m
unfolding MarkRepresentable mark_numbers mark_from
mark_back m held =
    ap (λ (l : List Float). record { x = get_or l 0 nan; y = get_or l 1 nan; u = get_or l 2 nan; v = get_or l 3 nan }) (numbers_back (mark_numbers m) held)

mark_again : (bits : List ℕ) → Fit mark_layout bits → first_failed (point (map (of_bits binary64) bits) ∷ []) ≡ 0 → map (to_bits binary64) (mark_numbers (mark_from bits)) ≡ bits
unfolding point mark_layout
mark_again bits fit h =
    let p = (first_passed (point (map (of_bits binary64) bits)) [] tt h).0 in
    let finite = within_finite farthest (map (of_bits binary64) bits) (not-false (all_within farthest (map (of_bits binary64) bits)) p) in
    ap (map (to_bits binary64)) (four bits (fit_length fit)) ∙ bits_again 4 bits fit finite

mark_laws : Laws mark_format
unfolding mark_format mark_layout MarkRepresentable mark_numbers numbered point first_failed
mark_laws =
    record {
      above_0 = tt;
      asks_above_0 = λ m. tt;
      tests_above_0 = λ fields. tt;
      fit = λ m held. fields_fit (mark_numbers m) held none;
      asked = λ m held. refl;
      back = λ m held passed. mark_back m held;
      again = λ fields fit passed. (mark_again fields fit passed, refl);
    }

pub mark_faithful : Faithful mark_format
mark_faithful = faithful mark_format mark_laws
