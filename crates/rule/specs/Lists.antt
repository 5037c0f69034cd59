-- Lists, looked through from the front: a test of every element or of some element, a count, a sum, the parts that a list is cut into, and what is written for each element
-- or into a part.
use Rattle.std.specs.Prelude.{Bool, cond, List, [], ◌∷◌, ◌++◌, ℕ, zero, suc, ◌+◌, ◌/◌, ltb, length, take, drop, filter, fold, Float}
use Rattle.std.specs.List.{list_all, list_any}
use Rattle.rule.specs.Arith.{◌⊕◌}

abbrev pub every : {A : Type 0} → (A → Bool) → List A → Bool
every test l = list_all test l

abbrev pub some : {A : Type 0} → (A → Bool) → List A → Bool
some test l = list_any test l

unfoldable pub count_of : {A : Type 0} → (A → Bool) → List A → ℕ
count_of test [] = 0
count_of test (a ∷ l) = cond (test a) 1 0 + count_of test l

-- those that pass a test, in their order
abbrev pub those : {A : Type 0} → (A → Bool) → List A → List A
those test l = filter test l

-- the places of those that pass a test, ascending, the first element being at place i
unfoldable pub places_from : {A : Type 0} → ℕ → (A → Bool) → List A → List ℕ
places_from i test [] = []
places_from i test (a ∷ l) = cond (test a) (i ∷ places_from (i + 1) test l) (places_from (i + 1) test l)

-- Document 01: 'Sums run in index order from 0.' Here from `sum`, which is what was added up before.
abbrev pub sum_from : {A : Type 0} → (A → Float) → Float → List A → Float
sum_from term sum l = fold (λ s a. s ⊕ term a) sum l

-- the first n parts of w elements each
unfoldable pub first_parts : {A : Type 0} → (w n : ℕ) → List A → List (List A)
first_parts w zero l = []
first_parts w (suc n) l = take w l ∷ first_parts w n (drop w l)

-- all whole parts of w elements; what is left over at the end is no part
unfoldable pub parts_of : {A : Type 0} → (w : ℕ) → List A → List (List A)
parts_of w l = first_parts w (length l / w) l

-- what is written for each element, one after the other
unfoldable pub for_each : {A B : Type 0} → (A → List B) → List A → List B
for_each write [] = []
for_each write (a ∷ l) = write a ++ for_each write l

-- the list with xs in the place of what stood from `at` on
unfoldable pub replaced : {A : Type 0} → ℕ → List A → List A → List A
replaced at xs l = take at l ++ (xs ++ drop (at + length xs) l)

-- a lent list after xs is written from its front: as it was where it has no room for all of them
unfoldable pub filled : {A : Type 0} → List A → List A → List A
filled xs l = cond (ltb (length l) (length xs)) l (xs ++ drop (length xs) l)
