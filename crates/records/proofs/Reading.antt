-- The numbers of a file of marks as they come into the lent list: those of a mark one by one, and the marks one after the other. Assumes nothing.
use mathlib.Core.Path.{◌≡◌, refl, sym, ap, ◌∙◌}
use mathlib.Core.List.{List, [], ◌∷◌, ◌++◌, map, append-nil}
use Prim.Native.Nat.{ℕ, zero, suc, ◌+◌, ◌-◌, ◌*◌, ◌/◌, ◌≤◌, ◌<◌}
use native.Mathlib.Nat.{zero-add, add_comm, mul_assoc, mul-zero, mul-suc, mul-div-le, mul-le-mul_left, le-add_right, le_refl, le_of_lt, le_trans}
use native.Mathlib.Numerals.{add-one}
use native.Mathlib.Omega.{arith}
use borrow.Rule.Slice.PartMut.{mid_of, put_mid, mid_len}
use lib.ListN.{length, get_or, take, drop, set, length-map, length-drop}
use lib.Seq.{drop-drop, length-take-le, take-take}
use lib.Ieee.{Float, nan, binary64, of_bits}
use Rattle.std.proofs.lemmas.List.{drop-take, map-append}
use Rattle.std.specs.Int.{w64, from_le_bytes}
use Rattle.std.specs.Simd.{first_chunks}
use Rattle.rule.specs.Lists.{first_parts, parts_of, for_each, replaced, filled}
use Rattle.rule.proofs.Lists.{alone, stored_more, stored_all, filled-whole, filled-replaced, for_each-append, parts_count}
use Rattle.fields.specs.Fields.{little_endian, fields_of, longs_of, doubles_of, double_at}
use Rattle.fields.proofs.Reading.{long_read, doubles_count, double-read}
use Rattle.fields.proofs.Writing.{Laid, laid_length, laid_more}
use Rattle.records.specs.Marks.{numbers_in}

-- ---- the numbers of a mark

module _ (l : List ℕ) (entry : List Float) where
  -- the lent list after the first i
  unfoldable pub mark_after : ℕ → List Float
  mark_after i = for_each alone (take i (doubles_of l)) ++ drop (1 * i) entry

  pub mark_none : mark_after 0 ≡ entry
  unfolding mark_after for_each
  mark_none = refl

  module _ (wide : length l ≡ 8 * length entry) where
    many : length l / 8 ≡ length (doubles_of l)
    many = sym (doubles_count l)

    inside : length l / 8 ≤ length entry
    inside = omega (arith, wide)

    -- the number of a part, as the library has it
    pub mark_more : (i : ℕ) {parts : List (List ℕ)} {x : Float} → i < length parts → parts ≡ first_chunks 8 (length l / 8) l → length parts ≡ length l / 8
        → x ≡ of_bits binary64 (from_le_bytes w64 (get_or parts i [])) → mark_after (i + 1) ≡ set (mark_after i) i x
    unfolding mark_after double_at
    mark_more i {parts} {x} h cut count e =
        let here : i < length l / 8 = rw (← count) h in
        let at : x ≡ get_or (doubles_of l) i nan = e ∙ ap (of_bits binary64) (long_read l i cut h refl) ∙ double-read l i nan here in
        sym (stored_more (doubles_of l) entry many inside nan here at (record { is = refl })).is

    pub mark_all : (i : ℕ) → i ≡ length l / 8 → mark_after i ≡ doubles_of l
    unfolding mark_after
    mark_all i h =
        stored_all (doubles_of l) entry many inside (omega (arith, h)) (omega (arith, h)) (record { is = refl })
        ∙ filled-whole (doubles_of l) entry (omega (arith, wide, many))

-- ---- the marks of a file

first-parts-more : {A : Type 0} (w n : ℕ) (l : List A) → first_parts w (suc n) l ≡ first_parts w n l ++ (take w (drop (w * n) l) ∷ [])
unfolding first_parts
first-parts-more w zero l = rw (mul-zero w)
first-parts-more w (suc n) l = ap (λ rest. take w l ∷ rest) (first-parts-more w n (drop w l) ∙ rw (drop-drop (w * n) w l, mul-suc w n, add_comm (w * n) w))

parts_split : {A : Type 0} (k w m : ℕ) (l : List A) → first_parts k (w + m) l ≡ first_parts k w (take (k * w) l) ++ first_parts k m (drop (k * w) l)
unfolding first_parts
parts_split k zero m l = rw (mul-zero k, zero-add m)
parts_split k (suc w) m l =
    let e : suc w + m ≡ suc (w + m) = omega arith in
    rw (e, mul-suc k w, add_comm (k * w) k, take-take k (k + k * w) l (le-add_right k (k * w)), drop-take k (k * w) l, ← drop-drop (k * w) k l)
    (ap (λ rest. take k l ∷ rest) (parts_split k w m (drop k l)))

-- cut by marks and by numbers, they are the same
pub by_numbers : (w n : ℕ) (l : List ℕ) → 8 * (w * n) ≤ length l
    → for_each doubles_of (first_parts (8 * w) n l) ≡ map (of_bits binary64) (map little_endian (first_parts 8 (w * n) l))
unfolding for_each first_parts doubles_of longs_of fields_of parts_of
by_numbers w zero l h = rw (mul-zero w)
by_numbers w (suc n) l h =
    let room : 8 * w + 8 * (w * n) ≤ length l = let e = mul-suc w n in omega (arith, e, h) in
    let mark : length (take (8 * w) l) / 8 ≡ w = rw (length-take-le (8 * w) l (omega (arith, room))) (omega arith) in
    let behind : 8 * (w * n) ≤ length (drop (8 * w) l) = rw length-drop (omega (arith, room)) in
    let longs : List (List ℕ) = first_parts 8 w (take (8 * w) l) in
    let others : List (List ℕ) = first_parts 8 (w * n) (drop (8 * w) l) in
    rw (mark, by_numbers w n (drop (8 * w) l) behind, mul-suc w n, add_comm (w * n) w, parts_split 8 w (w * n) l)
    (rw (map-append little_endian longs others, map-append (of_bits binary64) (map little_endian longs) (map little_endian others)))

module _ (w : ℕ) (l : List ℕ) where
  -- those of the first n marks
  abbrev first-numbers : ℕ → List Float
  first-numbers n = for_each doubles_of (first_parts (8 * w) n l)

  next : (n : ℕ) → first-numbers (n + 1) ≡ first-numbers n ++ doubles_of (take (8 * w) (drop (8 * w * n) l))
  unfolding for_each
  next n =
      let bytes : List ℕ = take (8 * w) (drop (8 * w * n) l) in
      rw (add-one n, first-parts-more (8 * w) n l)
      (for_each-append doubles_of (first_parts (8 * w) n l) (bytes ∷ []) ∙ ap (λ xs. first-numbers n ++ xs) (append-nil (doubles_of bytes)))

  pub first-many : (n : ℕ) → 8 * (w * n) ≤ length l → length (first-numbers n) ≡ w * n
  first-many n h = rw (by_numbers w n l h) (length-map _ (of_bits binary64) ∙ length-map _ little_endian ∙ parts_count 8 (w * n) l)

  module _ (entry : List Float) where
    -- the lent list after the first i marks
    unfoldable pub marks_read : ℕ → List Float
    marks_read i = replaced 0 (first-numbers i) entry

    pub read_none : marks_read 0 ≡ entry
    unfolding marks_read for_each first_parts replaced
    read_none = refl

    module _ (room : length l ≤ 8 * length entry) where
      -- the bytes of that many marks
      within : (i : ℕ) → i ≤ length l / (8 * w) → 8 * (w * i) ≤ length l
      within i h = rw (← mul_assoc 8 w i) (le_trans (mul-le-mul_left (8 * w) h) (mul-div-le (length l) (8 * w)))

      few-enough : (i : ℕ) → i ≤ length l / (8 * w) → length (first-numbers i) ≤ length entry
      few-enough i h = rw (first-many i (within i h)) (let k = within i h in omega (arith, k, room))

      pub read_more : {i : ℕ} {s part : List Float} → i < length l / (8 * w) → s ≡ marks_read i → part ≡ doubles_of (take (8 * w) (drop (8 * w * i) l))
          → put_mid (w * i) (w * i + w - w * i) s part ≡ marks_read (i + 1)
      unfolding marks_read
      read_more {i} {s} {part} h e p =
          let bytes : List ℕ = take (8 * w) (drop (8 * w * i) l) in
          let after : w * (i + 1) ≡ w * i + w = rw (add-one i, mul-suc w i) in
          let inside : 8 * (w * i) + 8 * w ≤ length l = let k = within (i + 1) (omega (arith, h)) in omega (arith, k, after) in
          let whole : 8 * w ≤ length (drop (8 * w * i) l) = rw length-drop (let a = mul_assoc 8 w i in omega (arith, a, inside)) in
          let wide : length (doubles_of bytes) ≡ w = doubles_count bytes ∙ rw (length-take-le (8 * w) (drop (8 * w * i) l) whole) (omega arith) in
          let last : w * i + w ≤ length entry = omega (arith, inside, room) in
          let few = few-enough i (le_of_lt h) in
          let k : Laid entry (first-numbers i) s = record { is = e } in
          let lent : List Float = mid_of (w * i) (w * i + w - w * i) s in
          let place : length lent ≡ length (doubles_of bytes) = mid_len (w * i) (w * i + w) s (rw (laid_length entry k few) last) ∙ omega (arith, wide) in
          (laid_more entry k few (w * i) (w * i + w) (doubles_of bytes) (first-many i (within i (le_of_lt h))) (ap (λ j. w * i + j) wide) last
          (p ∙ sym (filled-whole (doubles_of bytes) lent place))).is
          ∙ ap (λ xs. replaced 0 xs entry) (sym (next i))

      pub read_all : {i : ℕ} → i ≡ length l / (8 * w) → marks_read i ≡ filled (numbers_in w l) entry
      unfolding marks_read numbers_in parts_of
      read_all {i} h = rw h (filled-replaced (first-numbers (length l / (8 * w))) entry (few-enough (length l / (8 * w)) (le_refl (length l / (8 * w)))))
