-- What a loop knows at place i of a list that it goes through from the front: what is still owed, from i on; or what is written, up to i.
-- Assumes nothing.
use mathlib.Core.Path.{◌≡◌, refl, sym, ap, ap₂, ◌∙◌}
use mathlib.Core.Bool.{Bool, true, false, cond}
use mathlib.Core.Logic.{⊎_elim}
use mathlib.Core.List.{List, [], ◌∷◌, ◌++◌, map, append_assoc, append-nil}
use Prim.Native.Nat.{ℕ, zero, suc, ◌+◌, ◌-◌, ◌*◌, ◌≤◌, ◌<◌, zero-le}
use native.Mathlib.Nat.{zero-add, add_assoc, add_comm, le-add_right, mul-zero, one-mul, mul-suc, mul-le-mul_left, le_of_lt, le_of_eq}
use native.Mathlib.Numerals.{add-one}
use native.Mathlib.Omega.{arith}
use borrow.Author.Tests.{lt-ltb, le-ltb}
use borrow.Rule.Slice.PartMut.{mid_of, put_mid, Post-is, mid_len}
use lib.ListN.{length, get_or, take, drop, set, length-append, length-drop, drop_of_length-le}
use lib.Seq.{drop-cons, take-suc, take-length, take_at, drop_at, drop-drop, length-take-le, set_split}
use Rattle.rule.proofs.Tests.{le_or_gt}
use Rattle.rule.specs.Lists.{count_of, places_from, first_parts, for_each, replaced, filled}

-- ---- a place past the end

pub past_end : {A : Type 0} (l : List A) (i : ℕ) (d : A) → length l ≤ i → d ≡ get_or l i d
past_end [] i d h = refl
past_end (a ∷ l) zero d h = absurd (omega (arith, h))
past_end (a ∷ l) (suc i) d h = past_end l i d (omega (arith, h))

-- one of its places reads the same whatever stands for none
pub place_read : {A : Type 0} (l : List A) (i : ℕ) (d e : A) → i < length l → get_or l i d ≡ get_or l i e
place_read [] i d e h = absurd (omega (arith, h))
place_read (a ∷ l) zero d e h = refl
place_read (a ∷ l) (suc i) d e h = place_read l i d e (omega (arith, h))

-- n elements of a list from place i on, one by one
unfoldable pub places_at : {A : Type 0} → (n i : ℕ) → List A → A → List A
places_at zero i l d = []
places_at (suc n) i l d = get_or l i d ∷ places_at n (suc i) l d

pub some_by_one : {A : Type 0} (n i : ℕ) (l : List A) (d : A) → i + n ≤ length l → take n (drop i l) ≡ places_at n i l d
unfolding places_at
some_by_one zero i l d h = refl
some_by_one (suc n) i l d h = ap (take (suc n)) (drop-cons l i d (omega (arith, h))) ∙ ap (λ rest. get_or l i d ∷ rest) (some_by_one n (suc i) l d (omega (arith, h)))

-- all from place i on, where these are n
pub one_by_one : {A : Type 0} (n i : ℕ) (l : List A) (d : A) → length l ≡ i + n → drop i l ≡ places_at n i l d
one_by_one n i l d h =
    let long : length (drop i l) ≡ n = length-drop i l ∙ omega (arith, h) in
    sym (ap (λ k. take k (drop i l)) (sym long) ∙ take-length (drop i l)) ∙ some_by_one n i l d (omega (arith, h))

-- ---- a count, those that pass, and their places

module _ {A : Type 0} (test : A → Bool) (l : List A) (d : A) where
  pub count_next : (i : ℕ) → i < length l → count_of test (drop i l) ≡ cond (test (get_or l i d)) 1 0 + count_of test (drop (i + 1) l)
  unfolding count_of
  count_next i h = rw (add-one i, drop-cons l i d h)

  pub count_end : (i : ℕ) → length l ≤ i → count_of test (drop i l) ≡ 0
  unfolding count_of
  count_end i h = rw (drop_of_length-le l h)

pub count_most : {A : Type 0} (test : A → Bool) (l : List A) → count_of test l ≤ length l
unfolding count_of
count_most test [] = zero-le
count_most test (a ∷ l) = go (test a) (count_most test l)
  where
    go : (b : Bool) → count_of test l ≤ length l → cond b 1 0 + count_of test l ≤ suc (length l)
    go true h = omega arith
    go false h = omega arith

pub places_count : {A : Type 0} (test : A → Bool) (k : ℕ) (l : List A) → length (places_from k test l) ≡ count_of test l
unfolding places_from count_of
places_count test k [] = refl
places_count test k (a ∷ l) = go (test a) (places_count test (k + 1) l)
  where
    go : (b : Bool) → length (places_from (k + 1) test l) ≡ count_of test l → length (cond b (k ∷ places_from (k + 1) test l) (places_from (k + 1) test l)) ≡ cond b 1 0 + count_of test l
    go true h = rw h (omega arith)
    go false h = h ∙ sym (zero-add (count_of test l))

-- ---- the parts that a list is cut into

module _ {A : Type 0} (w : ℕ) where
  pub parts_count : (n : ℕ) (l : List A) → length (first_parts w n l) ≡ n
  unfolding first_parts
  parts_count zero l = refl
  parts_count (suc n) l = ap suc (parts_count n (drop w l))

  pub part_at : (n i : ℕ) (l d : List A) → i < n → get_or (first_parts w n l) i d ≡ take w (drop (w * i) l)
  unfolding first_parts
  part_at zero i l d h = absurd (omega (arith, h))
  part_at (suc n) zero l d h = rw (mul-zero w)
  part_at (suc n) (suc i) l d h = part_at n i (drop w l) d (omega (arith, h)) ∙ rw (drop-drop (w * i) w l, mul-suc w i, add_comm (w * i) w)

-- ---- a list stored to at each of its places

-- ---- a part of a list that is lent to its writer, from `at` to `end`

pub part_replaced : {A : Type 0} (at end : ℕ) (xs l : List A) → at + length xs ≡ end → put_mid at (end - at) l xs ≡ replaced at xs l
unfolding replaced
part_replaced at end xs l h = rw (h, Post-is at end l (let g = le-add_right at (length xs) in omega (arith, g, h)))

pub replaced-length : {A : Type 0} (at : ℕ) (xs l : List A) → at + length xs ≤ length l → length (replaced at xs l) ≡ length l
unfolding replaced
replaced-length at xs l h = simp (length-append, length-drop) (rw (length-take-le at l (omega arith)) (omega arith))

-- one part after the other is both at once
module _ {A : Type 0} (at : ℕ) (xs ys l : List A) (inside : at + length xs ≤ length l) where
  front : length (take at l ++ xs) ≡ at + length xs
  front = rw (length-append, length-take-le at l (let g = le-add_right at (length xs) in omega (arith, g, inside)))

  split : replaced at xs l ≡ take at l ++ xs ++ drop (at + length xs) l
  unfolding replaced
  split = sym (append_assoc (take at l) xs (drop (at + length xs) l))

  behind : drop (at + length xs + length ys) (replaced at xs l) ≡ drop (at + length xs + length ys) l
  behind =
      ap (drop (at + length xs + length ys)) split
      ∙ sym (drop-drop (length ys) (at + length xs) (take at l ++ xs ++ drop (at + length xs) l))
      ∙ ap (drop (length ys)) (drop_at (take at l ++ xs) (drop (at + length xs) l) (at + length xs) front)
      ∙ drop-drop (length ys) (at + length xs) l

  before : take (at + length xs) (replaced at xs l) ≡ take at l ++ xs
  before = ap (take (at + length xs)) split ∙ take_at (take at l ++ xs) (drop (at + length xs) l) (at + length xs) front

  both : replaced (at + length xs) ys (replaced at xs l) ≡ take at l ++ xs ++ (ys ++ drop (at + length xs + length ys) l)
  unfolding replaced
  both = ap₂ (λ p q. p ++ (ys ++ q)) before behind

  pub replaced_twice : replaced (at + length xs) ys (replaced at xs l) ≡ replaced at (xs ++ ys) l
  unfolding replaced
  replaced_twice = both ∙ rw (length-append xs ys, ← add_assoc at (length xs) (length ys), append_assoc (take at l) xs (ys ++ drop (at + length xs + length ys) l), append_assoc xs ys (drop (at + length xs + length ys) l))

-- ---- what is written into a lent list, w places for each element

pub for_each-append : {A B : Type 0} (write : A → List B) (k l : List A) → for_each write (k ++ l) ≡ for_each write k ++ for_each write l
unfolding for_each
for_each-append write [] l = refl
for_each-append write (a ∷ k) l = rw (for_each-append write k l, append_assoc)

for_each-one : {A B : Type 0} (write : A → List B) (a : A) → for_each write (a ∷ []) ≡ write a
unfolding for_each
for_each-one write a = append-nil (write a)

module _ {A B : Type 0} (write : A → List B) (w : ℕ) (wide : (a : A) → length (write a) ≡ w) where
  pub for_each-length : (l : List A) → length (for_each write l) ≡ w * length l
  unfolding for_each
  for_each-length [] = sym (mul-zero w)
  for_each-length (a ∷ l) = rw (length-append, wide a, for_each-length l, mul-suc w (length l)) (omega arith)

  -- cut into parts again, it is what was written for each
  pub parts_back : (l : List A) (rest : List B) → first_parts w (length l) (for_each write l ++ rest) ≡ map write l
  unfolding first_parts for_each
  parts_back [] rest = refl
  parts_back (a ∷ l) rest =
      rw (append_assoc (write a) (for_each write l) rest, take_at (write a) (for_each write l ++ rest) w (wide a), drop_at (write a) (for_each write l ++ rest) w (wide a), parts_back l rest)

  module _ (l : List A) (entry : List B) where
    -- the lent list after the first i elements
    pub record Written (i : ℕ) (s : List B) : Type 0 where
      pub is : s ≡ for_each write (take i l) ++ drop (w * i) entry

    pub none : Written 0 entry
    unfolding for_each
    none = record { is = rw (mul-zero w) }

    module _ {n : ℕ} (count : n ≡ length l) where
      first : (i : ℕ) → i ≤ n → length (for_each write (take i l)) ≡ w * i
      first i h = rw (for_each-length (take i l), length-take-le i l (rw (← count) h))

      pub same : {i : ℕ} {s : List B} → i ≤ n → w * n ≤ length entry → Written i s → length s ≡ length entry
      same {i} h room k =
          ap length k.is ∙ rw (length-append, first i h, length-drop) (let g : w * i ≤ w * n = mul-le-mul_left w h in omega (arith, g, room))

      pub all : {i : ℕ} {s : List B} → i ≤ n → n ≤ i → Written i s → s ≡ for_each write l ++ drop (w * length l) entry
      all {i} h g k = let e : i ≡ length l = omega (arith, h, g, count) in k.is ∙ rw (e, take-length l)

      -- Element i goes into its own w places, a part that is lent to its writer, and nothing else changes.
      module _ (d : A) {i : ℕ} (inside : i < n) {s : List B} (k : Written i s) where
        next : for_each write (take (suc i) l) ≡ for_each write (take i l) ++ write (get_or l i d)
        next = rw (take-suc l i d (rw (← count) inside), for_each-append write (take i l) (get_or l i d ∷ []), for_each-one write (get_or l i d))

        front_is : take (w * i) s ≡ for_each write (take i l)
        front_is = ap (take (w * i)) k.is ∙ take_at (for_each write (take i l)) (drop (w * i) entry) (w * i) (first i (le_of_lt inside))

        rest_is : drop (w * i + w) s ≡ drop (w * i + w) entry
        rest_is =
            ap (drop (w * i + w)) k.is
            ∙ sym (drop-drop w (w * i) (for_each write (take i l) ++ drop (w * i) entry))
            ∙ ap (drop w) (drop_at (for_each write (take i l)) (drop (w * i) entry) (w * i) (first i (le_of_lt inside)))
            ∙ drop-drop w (w * i) entry

        pub more : {a : A} {t : List B} → a ≡ get_or l i d → t ≡ replaced (w * i) (write a) s → Written (i + 1) t
        unfolding replaced
        more {a} e f = record { is = f ∙ rw (wide a, front_is, rest_is, add-one i, next, mul-suc w i, e, append_assoc) }

-- ---- what is written from the front of a lent list, if there is room

module _ {A : Type 0} (xs l : List A) where
  pub filled_not : length l < length xs → l ≡ filled xs l
  unfolding filled
  filled_not h = rw (lt-ltb (length l) (length xs) h)

  pub filled_is : length xs ≤ length l → filled xs l ≡ xs ++ drop (length xs) l
  unfolding filled
  filled_is h = rw (le-ltb (length l) (length xs) h)

  pub filled-whole : length l ≡ length xs → filled xs l ≡ xs
  filled-whole h = filled_is (le_of_eq (sym h)) ∙ rw (drop_of_length-le l (le_of_eq h), append-nil xs)

  -- by a part that is lent, and by stores to the first places
  pub filled-replaced : length xs ≤ length l → replaced 0 xs l ≡ filled xs l
  unfolding replaced
  filled-replaced h = rw (filled_is h, zero-add (length xs))

pub filled-length : {A : Type 0} (xs l : List A) → length (filled xs l) ≡ length l
filled-length xs l = ⊎_elim fits not (le_or_gt (length xs) (length l))
  where
    fits : length xs ≤ length l → length (filled xs l) ≡ length l
    fits h = rw (filled_is xs l h, length-append, length-drop) (omega (arith, h))

    not : length l < length xs → length (filled xs l) ≡ length l
    not h = rw (← filled_not xs l h)

pub filled_front : {A : Type 0} (xs l : List A) → length xs ≤ length l → take (length xs) (filled xs l) ≡ xs
filled_front xs l h = rw (filled_is xs l h) (take_at xs (drop (length xs) l) (length xs) refl)

-- as much written once more leaves nothing of the first
pub filled_again : {A : Type 0} (xs ys l : List A) → length xs ≡ length ys → filled ys (filled xs l) ≡ filled ys l
filled_again xs ys l e = ⊎_elim fits not (le_or_gt (length xs) (length l))
  where
    fits : length xs ≤ length l → filled ys (filled xs l) ≡ filled ys l
    fits h =
        filled_is ys (filled xs l) (rw (filled-length xs l, ← e) h)
        ∙ rw (filled_is xs l h, ← e, drop_at xs (drop (length xs) l) (length xs) refl)
        (ap (λ n. ys ++ drop n l) e ∙ sym (filled_is ys l (rw (← e) h)))

    not : length l < length xs → filled ys (filled xs l) ≡ filled ys l
    not h = rw (← filled_not xs l h)

-- a part that is lent to one that fills it
pub part_filled : {A : Type 0} (at end : ℕ) (xs l : List A) {part : List A} → at + length xs ≡ end → end ≤ length l → part ≡ filled xs (mid_of at (end - at) l)
    → put_mid at (end - at) l part ≡ replaced at xs l
part_filled at end xs l h inside e =
    rw (e ∙ filled-whole xs (mid_of at (end - at) l) (mid_len at end l inside ∙ (let g : end - at ≡ length xs = omega (arith, h) in g))) (part_replaced at end xs l h)

-- by a loop, w places for each element
module _ {A B : Type 0} (write : A → List B) (w : ℕ) (wide : (a : A) → length (write a) ≡ w) (l : List A) (entry : List B) {n : ℕ} (count : n ≡ length l) where
  places : length (for_each write l) ≡ w * n
  places = for_each-length write w wide l ∙ rw count

  pub no_room : length entry < w * n → entry ≡ filled (for_each write l) entry
  no_room h = filled_not (for_each write l) entry (rw places h)

  pub all-filled : {i : ℕ} {s : List B} → i ≤ n → n ≤ i → w * n ≤ length entry → Written write w wide l entry i s → s ≡ filled (for_each write l) entry
  all-filled h g room k =
      all write w wide l entry count h g k
      ∙ rw (← for_each-length write w wide l) (sym (filled_is (for_each write l) entry (rw places room)))

-- ---- a list stored element by element: one place for each

pub set_replaced : {A : Type 0} (l : List A) (i : ℕ) (a : A) → i < length l → set l i a ≡ replaced i (a ∷ []) l
unfolding replaced
set_replaced l i a h = set_split l i a h ∙ rw (add-one i)

abbrev pub alone : {A : Type 0} → A → List A
alone a = a ∷ []

pub alone_wide : {A : Type 0} (a : A) → length (alone a) ≡ 1
alone_wide a = refl

each_alone : {A : Type 0} (l : List A) → for_each alone l ≡ l
unfolding for_each
each_alone [] = refl
each_alone (a ∷ l) = ap (λ t. a ∷ t) (each_alone l)

module _ {A : Type 0} (l entry : List A) where
  -- the first i elements are stored
  abbrev pub Stored : ℕ → List A → Type 0
  Stored i s = Written alone 1 alone_wide l entry i s

  module _ {n : ℕ} (count : n ≡ length l) where
    pub stored_no_room : length entry < n → entry ≡ filled l entry
    stored_no_room h = filled_not l entry (rw (← count) h)

    module _ (room : n ≤ length entry) where
      room_once : 1 * n ≤ length entry
      room_once = rw (one-mul n) room

      pub stored_same : {i : ℕ} {s : List A} → i ≤ n → Stored i s → length s ≡ length entry
      stored_same h k = same alone 1 alone_wide l entry count h room_once k

      pub stored_more : (d : A) {i : ℕ} {s : List A} {a : A} → i < n → a ≡ get_or l i d → Stored i s → Stored (i + 1) (set s i a)
      stored_more d {i} {s} {a} h e k =
          more alone 1 alone_wide l entry count d h k e
          (rw (one-mul i) (set_replaced s i a (let g = stored_same (le_of_lt h) k in omega (arith, g, h, room))))

      pub stored_all : {i : ℕ} {s : List A} → i ≤ n → n ≤ i → Stored i s → s ≡ filled l entry
      stored_all h g k = all-filled alone 1 alone_wide l entry count h g room_once k ∙ rw (each_alone l)
