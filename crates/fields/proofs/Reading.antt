-- What a reader finds at a place: a field of any width, and what the library makes of the parts of four bytes and of eight. Assumes nothing.
use mathlib.Core.Path.{◌≡◌, refl, sym, ap, ◌∙◌}
use mathlib.Core.Bool.{true}
use mathlib.Core.List.{List, [], ◌∷◌, ◌++◌}
use Prim.Native.Nat.{ℕ, zero, suc, ◌+◌, ◌*◌, ◌/◌, ◌^◌, ◌≤◌, ◌<◌}
use native.Mathlib.Nat.{zero-add, one-mul, mul_assoc, pow-zero, pow-succ'}
use native.Mathlib.Omega.{arith}
use lib.ListN.{length, get_or, take, drop, set, length-drop, length-map, get_or-map}
use lib.Seq.{length-take-le}
use lib.Ieee.{Float, nan, inf, fin, binary64, is_nan, of_bits, to_bits}
use Rattle.std.specs.Int.{w32, w64, from_le_bytes}
use Rattle.std.specs.Simd.{first_chunks}
use Rattle.rule.specs.Lists.{first_parts, parts_of, for_each, filled}
use Rattle.rule.proofs.Lists.{past_end, place_read, parts_count, part_at, places_at, one_by_one, alone, stored_no_room, stored_more, stored_all}
use Rattle.fields.specs.Fields.{little_endian, fields_of, words_of, longs_of, doubles_of, word_at, long_at, double_at}

-- ---- fields of w bytes

module _ (w : ℕ) (l : List ℕ) where
  pub fields-count : length (fields_of w l) ≡ length l / w
  unfolding fields_of parts_of
  fields-count = length-map (parts_of w l) little_endian ∙ parts_count w (length l / w) l

  pub field_at : (i : ℕ) → i < length l / w → get_or (fields_of w l) i 0 ≡ little_endian (take w (drop (w * i) l))
  unfolding fields_of parts_of little_endian
  field_at i h = get_or-map little_endian (parts_of w l) i [] ∙ ap little_endian (part_at w (length l / w) i l [] h)

  pub no_field : (i : ℕ) → length l / w ≤ i → 0 ≡ get_or (fields_of w l) i 0
  no_field i h = past_end (fields_of w l) i 0 (rw fields-count h)

pub word_spelled : (l : List ℕ) (i : ℕ) → i < length l / 4 → word_at l i ≡ little_endian (take 4 (drop (4 * i) l))
unfolding word_at words_of
word_spelled l i h = field_at 4 l i h

pub long_spelled : (l : List ℕ) (i : ℕ) → i < length l / 8 → long_at l i ≡ little_endian (take 8 (drop (8 * i) l))
unfolding long_at longs_of
long_spelled l i h = field_at 8 l i h

-- ---- a field as the library finds it: a whole part, and the number that its bytes spell

chunks_parts : {A : Type 0} (w n : ℕ) (l : List A) → first_chunks w n l ≡ first_parts w n l
unfolding first_parts
chunks_parts w zero l = refl
chunks_parts w (suc n) l = ap (λ rest. take w l ∷ rest) (chunks_parts w n (drop w l))

module _ (w : ℕ) (l : List ℕ) {chunks : List (List ℕ)} (cut : chunks ≡ first_chunks w (length l / w) l) where
  pub parts_are : chunks ≡ parts_of w l
  unfolding parts_of
  parts_are = cut ∙ chunks_parts w (length l / w) l

  parts_many : length chunks ≡ length l / w
  unfolding parts_of
  parts_many = ap length parts_are ∙ parts_count w (length l / w) l

  the_part : (i : ℕ) (d : List ℕ) → i < length l / w → get_or chunks i d ≡ take w (drop (w * i) l)
  unfolding parts_of
  the_part i d h = ap (λ parts. get_or parts i d) parts_are ∙ part_at w (length l / w) i l d h

-- four bytes and eight
bytes_4 : (l : List ℕ) → length l ≡ 4 → from_le_bytes w32 l ≡ little_endian l
unfolding little_endian places_at
bytes_4 l h = sym (ap little_endian (one_by_one 4 0 l 0 h) ∙ omega arith)

bytes_8 : (l : List ℕ) → length l ≡ 8 → from_le_bytes w64 l ≡ little_endian l
unfolding little_endian places_at
bytes_8 l h = sym (ap little_endian (one_by_one 8 0 l 0 h) ∙ omega arith)

pub word_read : (l : List ℕ) (i : ℕ) {chunks : List (List ℕ)} {n : ℕ} → chunks ≡ first_chunks 4 (length l / 4) l → i < length chunks
    → n ≡ from_le_bytes w32 (get_or chunks i []) → n ≡ word_at l i
word_read l i {chunks} cut h e =
    let k : i < length l / 4 = rw (parts_many 4 l cut) at h in
    let p : get_or chunks i [] ≡ take 4 (drop (4 * i) l) = the_part 4 l cut i [] k in
    let g : length (get_or chunks i []) ≡ 4 = ap length p ∙ length-take-le 4 (drop (4 * i) l) (simp length-drop (omega arith)) in
    e ∙ bytes_4 (get_or chunks i []) g ∙ ap little_endian p ∙ sym (word_spelled l i k)

pub long_read : (l : List ℕ) (i : ℕ) {chunks : List (List ℕ)} {n : ℕ} → chunks ≡ first_chunks 8 (length l / 8) l → i < length chunks
    → n ≡ from_le_bytes w64 (get_or chunks i []) → n ≡ long_at l i
long_read l i {chunks} cut h e =
    let k : i < length l / 8 = rw (parts_many 8 l cut) at h in
    let p : get_or chunks i [] ≡ take 8 (drop (8 * i) l) = the_part 8 l cut i [] k in
    let g : length (get_or chunks i []) ≡ 8 = ap length p ∙ length-take-le 8 (drop (8 * i) l) (simp length-drop (omega arith)) in
    e ∙ bytes_8 (get_or chunks i []) g ∙ ap little_endian p ∙ sym (long_spelled l i k)

pub words_count : (l : List ℕ) → length l / 4 ≡ length (words_of l)
unfolding words_of
words_count l = sym (fields-count 4 l)

pub longs_count : (l : List ℕ) → length (longs_of l) ≡ length l / 8
unfolding longs_of
longs_count l = fields-count 8 l

pub no_word : (l : List ℕ) (i : ℕ) → length l / 4 ≤ i → 0 ≡ word_at l i
unfolding word_at words_of
no_word l i h = no_field 4 l i h

pub no_long : (l : List ℕ) (i : ℕ) → length l / 8 ≤ i → 0 ≡ long_at l i
unfolding long_at longs_of
no_long l i h = no_field 8 l i h

-- ---- all words, stored from the front of a lent list

module _ (l entry : List ℕ) where
  -- the lent list after the first i words
  unfoldable pub words_after : ℕ → List ℕ
  words_after i = for_each alone (take i (words_of l)) ++ drop (1 * i) entry

  pub words_none : words_after 0 ≡ entry
  unfolding words_after for_each
  words_none = refl

  pub words_no_room : length entry < length l / 4 → entry ≡ filled (words_of l) entry
  words_no_room h = stored_no_room (words_of l) entry (words_count l) h

  module _ (room : length l / 4 ≤ length entry) where
    pub words_more : (i : ℕ) → i < length l / 4 → words_after (i + 1) ≡ set (words_after i) i (word_at l i)
    unfolding words_after word_at
    words_more i h = sym (stored_more (words_of l) entry (words_count l) room 0 h refl (record { is = refl })).is

    pub words_all : (i : ℕ) → i ≡ length l / 4 → words_after i ≡ filled (words_of l) entry
    unfolding words_after
    words_all i h = stored_all (words_of l) entry (words_count l) room (omega (arith, h)) (omega (arith, h)) (record { is = refl })

-- ---- eight bytes as a double

-- the pattern of each NaN
pub nan_pattern : (x : Float) → true ≡ is_nan x → 0x7ff8_0000_0000_0000 ≡ to_bits binary64 x
unfolding is_nan to_bits
nan_pattern nan h = refl
nan_pattern (inf s) h = cc
nan_pattern (fin s m e) h = cc

pub doubles_count : (l : List ℕ) → length (doubles_of l) ≡ length l / 8
unfolding doubles_of longs_of
doubles_count l = length-map (longs_of l) (of_bits binary64) ∙ fields-count 8 l

pub double-read : (l : List ℕ) (i : ℕ) (d : Float) → i < length l / 8 → double_at l i ≡ get_or (doubles_of l) i d
unfolding double_at long_at doubles_of
double-read l i d h =
    sym (get_or-map (of_bits binary64) (longs_of l) i 0)
    ∙ place_read (doubles_of l) i (of_bits binary64 0) d (rw (doubles_count l) h)

-- ---- the bytes of two lists, one behind the other

pub spelled_append : (k l : List ℕ) → little_endian (k ++ l) ≡ little_endian k + 256 ^ length k * little_endian l
unfolding little_endian
spelled_append [] l = rw (pow-zero 256, one-mul (little_endian l), zero-add (little_endian l))
spelled_append (b ∷ k) l =
    let e = spelled_append k l in
    let f : 256 ^ suc (length k) * little_endian l ≡ 256 * (256 ^ length k * little_endian l) = rw (pow-succ' 256 (length k), mul_assoc 256 (256 ^ length k) (little_endian l)) in
    omega (arith, e, f)
