-- A part of a buffer, read into behind what stands before it. Assumes nothing.
use Rattle.std.proofs.Common.{arith, ℕ, ◌≡◌, ◌+◌, ◌-◌, ◌≤◌, List, ◌++◌, length, take, slice_range, Option, sym, ap, subst, ◌∙◌, le_refl, drop_at, length-take-le}
use Rattle.std.specs.Io.KnownBytes.{Consumes}
use Rattle.std.proofs.KnownBytes.{Consumes-trans}
use Rattle.std.proofs.lemmas.Slice.{take-put_mid_below}
use borrow.Rule.Slice.PartMut.{put_mid, post_of}
use lib.Seq.{take-add, take-append-le}

take_split : (a b : ℕ) (old new : List ℕ) → a ≤ b → take a new ≡ take a old → take a old ++ slice_range new a b ≡ take b new
take_split a b old new h front =
    let same : a + (b - a) ≡ b = omega arith in
    ap (λ l. l ++ slice_range new a b) (sym front) ∙ sym (take-add a (b - a) new) ∙ ap (λ n. take n new) same

slice_range-put_mid : (a k n : ℕ) (xs ys : List ℕ) → a ≤ length xs → n ≤ length ys → slice_range (put_mid a k xs ys) a (a + n) ≡ take n ys
slice_range-put_mid a k n xs ys within fits =
    let same : (a + n) - a ≡ n = omega arith in
    let after = post_of a k xs in
    ap (take ((a + n) - a)) (drop_at (take a xs) (ys ++ after) a (length-take-le a xs within)) ∙ ap (λ m. take m (ys ++ after)) same ∙ take-append-le n ys after fits

-- what stood before the part, and then the first n of what was read into it
take-put_mid : (a n k : ℕ) (xs ys : List ℕ) → a ≤ length xs → n ≤ length ys → take a xs ++ take n ys ≡ take (a + n) (put_mid a k xs ys)
take-put_mid a n k xs ys within fits =
    let more : a ≤ a + n = omega arith in
    ap (λ l. take a xs ++ l) (sym (slice_range-put_mid a k n xs ys within fits))
    ∙ take_split a (a + n) xs (put_mid a k xs ys) more (take-put_mid_below _ _ _ _ _ (le_refl _) within)

-- what one read put behind the bytes that stood is what the reader gave next
pub read_more : (k n : ℕ) (ys : List ℕ) (a b c : Option (List ℕ)) (at : ℕ) (xs : List ℕ) → at ≤ length xs → n ≤ length ys → Consumes b c (take n ys) → Consumes a b (take at xs) → Consumes a c (take (at + n) (put_mid at k xs ys))
read_more k n ys a b c at xs within fits next before = subst (Consumes _ _) (take-put_mid at n k xs ys within fits) (Consumes-trans _ _ _ _ _ before next)
