-- The numbers of a file's whole marks: how many there are, and that a file of whole marks has no others. Assumes nothing.
use mathlib.Core.Path.{◌≡◌, ap, ◌∙◌}
use mathlib.Core.List.{List, map}
use Prim.Native.Nat.{ℕ, ◌*◌, ◌/◌, ◌%◌, ◌≤◌}
use native.Mathlib.Nat.{mul-mod_right, div-add-mod, mul_assoc, mul-div-le, le_of_eq}
use native.Mathlib.Omega.{arith}
use lib.ListN.{length, take}
use lib.Ieee.{Float, binary64, of_bits}
use Rattle.rule.specs.Lists.{first_parts, parts_of, filled}
use Rattle.rule.proofs.Lists.{filled_front}
use Rattle.fields.specs.Fields.{little_endian, fields_of, longs_of, doubles_of}
use Rattle.records.specs.Marks.{numbers_in}
use Rattle.records.proofs.Reading.{by_numbers, first-many, read_none, read_more, read_all}

module _ (w : ℕ) (l : List ℕ) where
  -- 8 * w bytes a mark
  pub numbers-length : length (numbers_in w l) ≡ w * (length l / (8 * w))
  unfolding numbers_in parts_of
  numbers-length = first-many w l (length l / (8 * w)) (rw (← mul_assoc 8 w (length l / (8 * w))) (mul-div-le (length l) (8 * w)))

  all-bytes : length l % (8 * w) ≡ 0 → 8 * (w * (length l / (8 * w))) ≡ length l
  all-bytes h = rw (← mul_assoc 8 w (length l / (8 * w))) (omega (arith, div-add-mod (length l) (8 * w), h))

  pub numbers-whole : length l % (8 * w) ≡ 0 → numbers_in w l ≡ doubles_of l
  unfolding numbers_in parts_of doubles_of longs_of fields_of
  numbers-whole h =
      let e : w * (length l / (8 * w)) ≡ length l / 8 = omega (arith, all-bytes h) in
      by_numbers w (length l / (8 * w)) l (le_of_eq (all-bytes h)) ∙ ap (λ n. map (of_bits binary64) (map little_endian (first_parts 8 n l))) e

  -- how many, as the reader counts them
  pub numbers_counted : length l % (8 * w) ≡ 0 → length l / 8 ≡ length (numbers_in w l)
  numbers_counted h = omega (arith, all-bytes h, numbers-length)

  pub whole_marks : length l % (8 * w) ≡ 0 → length l / 8 % w ≡ 0
  whole_marks h = rw (numbers_counted h, numbers-length) (mul-mod_right w (length l / (8 * w)))

  pub numbers_front : (entry : List Float) → length l % (8 * w) ≡ 0 → length l ≤ 8 * length entry → take (length l / 8) (filled (numbers_in w l) entry) ≡ numbers_in w l
  numbers_front entry h room = rw (numbers_counted h) (filled_front (numbers_in w l) entry (omega (arith, numbers_counted h, room)))

-- ---- what the proof of the reader takes

pub ruleset reading = (read_none, read_more, read_all, numbers_counted, whole_marks, numbers_front)
