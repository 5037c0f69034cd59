-- Walks over the squares of distances: what is counted, summed and written, by the tests of the squares. Assumes nothing.
use mathlib.Core.Path.{◌≡◌, refl, sym, ap, ◌∙◌}
use mathlib.Core.Bool.{Bool, true, false, cond}
use mathlib.Core.List.{List, [], ◌∷◌, ◌++◌, map, append_assoc, append-nil}
use Prim.Native.Nat.{ℕ, suc, ◌+◌, ◌≤◌, ◌<◌}
use native.Mathlib.Nat.{zero-add, add-zero}
use native.Mathlib.Numerals.{add-one}
use native.Mathlib.Omega.{arith}
use borrow.Author.Tests.{le-ltb}
use lib.Dec.{T}
use lib.ListN.{length, get_or, take, drop, set, length-map, length-append}
use lib.Seq.{drop-cons, set-append_seam, length-take-le}
use lib.Ieee.{Float, nan, binary64, fits, le}
use Rattle.std.specs.List.{count_by}
use Rattle.std.proofs.lemmas.List.{take_all, take_more, map-append}
use Rattle.std.proofs.lemmas.List.Elements.{filter-append}
use Rattle.std.proofs.lemmas.List.Sums.{sum_by-cons, fold_push}
use Rattle.std.proofs.lemmas.List.Recursion.{is_sum_by}
use Rattle.rule.specs.Arith.{◌⊕◌}
use Rattle.rule.specs.Lists.{count_of, those, sum_from, places_from}
use Rattle.rule.proofs.Lists.{places_count}
use Rattle.rule.proofs.Tests.{clash}
use Rattle.root.specs.Root.{root_of}
use Rattle.numbers.specs.Constants.{zero'}
use Rattle.book.specs.Score.{close, count_in, square, squares_in}
use Rattle.book.proofs.Clear.{count-within}
use Rattle.score.specs.Places.{indices_in, cramped, indexed, index_count}
use Rattle.score.specs.Limits.{Low, High, surely, possibly}
use Rattle.score.specs.Sum.{within_added}

-- ---- the count

-- a list of doubles
abbrev Doubles : List Float → Type 0
Doubles qs = (i : ℕ) → T (fits binary64 (get_or qs i nan))

pub count_by_roots : (thresh : Float) (qs : List Float) → count_in thresh (map root_of qs) ≡ count_by (λ q. le (root_of q) thresh) qs
unfolding count_in count_of close
count_by_roots thresh qs = is_sum_by (λ l. count_of (close thresh) (map root_of l)) (λ q. cond (le (root_of q) thresh) 1 0) refl (λ _ _. refl) qs

-- a test that implies another counts no more than it
fewer : (p r : Float → Bool) → ((q : Float) → T (fits binary64 q) → p q ≡ true → r q ≡ true) → (qs : List Float) → Doubles qs → count_by p qs ≤ count_by r qs
fewer p r implies [] f = omega arith
fewer p r implies (q ∷ qs) f =
    let rest = fewer p r implies qs (λ i. f (suc i)) in
    let here = go (p q) (r q) (implies q (f 0)) in
    omega (arith, rest, here, sum_by-cons (λ x. cond (p x) 1 0) q qs, sum_by-cons (λ x. cond (r x) 1 0) q qs)
  where
    go : (a b : Bool) → (a ≡ true → b ≡ true) → cond a 1 0 ≤ cond b 1 0
    go true b h = rw (h refl) (omega arith)
    go false b h = Prim.Native.Nat.zero-le

-- the count lies between those that are surely within and those that are possibly
module _ {thresh low high : Float} (l : Low thresh low) (h : High thresh high) (qs : List Float) (doubles : Doubles qs) where
  pub all_told : {i sure possible : ℕ} → length qs ≤ i → sure ≡ count_by (surely low) (take i qs) → possible ≡ count_by (possibly high) (take i qs) → sure ≡ possible
      → sure ≡ count_in thresh (map root_of qs)
  all_told {i} {sure} end s p e =
      let least = fewer (surely low) (λ q. le (root_of q) thresh) l.within qs doubles in
      let most = fewer (λ q. le (root_of q) thresh) (possibly high) (λ q f c. go (possibly high q) (h.beyond q f) c) qs doubles in
      let all : take i qs ≡ qs = take_all i qs end in
      let s' : sure ≡ count_by (surely low) qs = rw all at s in
      let p' = rw all at p in
      omega (arith, least, most, s', p', count_by_roots thresh qs)
    where
      go : {c : Bool} → (b : Bool) → (b ≡ false → c ≡ false) → c ≡ true → b ≡ true
      go true h e = refl
      go false h e = clash e (h refl)

-- ---- the sum

-- one more distance
squares_push : (thresh : Float) (ds : List Float) (d : Float) → squares_in thresh (ds ++ (d ∷ [])) ≡ within_added thresh (squares_in thresh ds) d
unfolding squares_in close within_added
squares_push thresh ds d = ap (sum_from square zero') (filter-append (close thresh) ds (d ∷ [])) ∙ go (le d thresh)
  where
    go : (b : Bool) → sum_from square zero' (those (close thresh) ds ++ cond b (d ∷ []) []) ≡ cond b (sum_from square zero' (those (close thresh) ds) ⊕ square d) (sum_from square zero' (those (close thresh) ds))
    go true = fold_push (λ s a. s ⊕ square a) zero' (those (close thresh) ds) d
    go false = ap (sum_from square zero') (append-nil (those (close thresh) ds))

pub squares_more : (thresh : Float) (qs : List Float) {i : ℕ} → i < length qs
    → squares_in thresh (map root_of (take (i + 1) qs)) ≡ within_added thresh (squares_in thresh (map root_of (take i qs))) (root_of (get_or qs i nan))
squares_more thresh qs {i} here = rw (take_more qs i nan here, map-append root_of (take i qs) (get_or qs i nan ∷ []), squares_push thresh (map root_of (take i qs)) (root_of (get_or qs i nan)))

pub squares_none : (thresh : Float) → squares_in thresh [] ≡ zero'
unfolding squares_in
squares_none thresh = refl

-- ---- the places

places_push : (p : Float → Bool) (k : ℕ) (ds : List Float) (d : Float) → places_from k p (ds ++ (d ∷ [])) ≡ places_from k p ds ++ cond (p d) ((k + length ds) ∷ []) []
unfolding places_from
places_push p k [] d = go (p d)
  where
    go : (b : Bool) → cond b (k ∷ []) [] ≡ cond b ((k + 0) ∷ []) []
    go true = rw add-zero
    go false = refl
places_push p k (e ∷ ds) d =
    go _ _ _ (p e) (places_push p (k + 1) ds d ∙ ap (λ n. places_from (k + 1) p ds ++ cond (p d) (n ∷ []) []) (omega arith))
  where
    go : (xs ys zs : List ℕ) (b : Bool) → xs ≡ ys ++ zs → cond b (k ∷ xs) xs ≡ cond b (k ∷ ys) ys ++ zs
    go xs ys zs true h = ap (λ x. k ∷ x) h
    go xs ys zs false h = h

-- one more place, behind those that are written already
stored : (front entry : List ℕ) {k : ℕ} (i : ℕ) → length front ≡ k → k < length entry → set (front ++ drop k entry) k i ≡ front ++ (i ∷ []) ++ drop (k + 1) entry
stored front entry {k} i long inside =
    ap (λ x. set (front ++ x) k i) (drop-cons entry k 0 inside)
    ∙ ap (λ x. set (front ++ get_or entry k 0 ∷ drop (suc k) entry) x i) (sym long)
    ∙ set-append_seam front (get_or entry k 0) (drop (suc k) entry) i
    ∙ rw (← add-one k) (sym (append_assoc front (i ∷ []) (drop (k + 1) entry)))

pub indices_count : (thresh : Float) (ds : List Float) → length (indices_in thresh ds) ≡ count_in thresh ds
unfolding indices_in count_in
indices_count thresh ds = places_count (close thresh) 0 ds

-- where there is room, all of them are written
module _ (thresh : Float) (ds : List Float) (entry : List ℕ) (fit : length ds ≤ length entry) (few : length ds ≤ 2000) where
  roomy : cramped ds entry ≡ false
  unfolding cramped
  roomy = rw (le-ltb (length entry) (length ds) fit, le-ltb 2000 (length ds) few)

  pub all_counted : index_count thresh ds entry ≡ length (indices_in thresh ds)
  unfolding index_count
  all_counted = rw roomy (sym (indices_count thresh ds))

  pub all_indexed : indexed thresh ds entry ≡ indices_in thresh ds ++ drop (length (indices_in thresh ds)) entry
  unfolding indexed
  all_indexed = rw roomy

module _ (thresh : Float) (qs : List Float) (entry : List ℕ) where
  -- the places of the first i; how many they are, and the lent list when they are written
  abbrev first : ℕ → List ℕ
  first i = indices_in thresh (map root_of (take i qs))

  unfoldable pub places : ℕ → ℕ
  places i = length (first i)

  unfoldable pub left : ℕ → List ℕ
  left i = first i ++ drop (places i) entry

  pub places_none : places 0 ≡ 0
  unfolding places indices_in places_from
  places_none = refl

  pub left_none : left 0 ≡ entry
  unfolding left places indices_in places_from
  left_none = refl

  module _ {i : ℕ} (here : i < length qs) where
    push : first (i + 1) ≡ first i ++ cond (le (root_of (get_or qs i nan)) thresh) (i ∷ []) []
    unfolding indices_in close
    push =
        let up_to : i ≤ length qs = omega arith in
        let long : 0 + length (map root_of (take i qs)) ≡ i = rw (zero-add, length-map, length-take-le) in
        rw (take_more qs i nan here, map-append root_of (take i qs) (get_or qs i nan ∷ []), places_push (close thresh) 0 (map root_of (take i qs)) (root_of (get_or qs i nan)), long)

    same : le (root_of (get_or qs i nan)) thresh ≡ false → first (i + 1) ≡ first i
    same e = push ∙ rw (e, append-nil)

    more : le (root_of (get_or qs i nan)) thresh ≡ true → first (i + 1) ≡ first i ++ (i ∷ [])
    more e = push ∙ rw e

    pub places_few : places i ≤ i
    unfolding places
    places_few =
        let few = count-within thresh (map root_of (take i qs)) in
        let up_to : i ≤ length qs = omega arith in
        let long : length (map root_of (take i qs)) ≡ i = rw (length-map, length-take-le) in
        omega (arith, few, long, indices_count thresh (map root_of (take i qs)))

    pub places_same : le (root_of (get_or qs i nan)) thresh ≡ false → places (i + 1) ≡ places i
    unfolding places
    places_same e = ap length (same e)

    pub places_more : le (root_of (get_or qs i nan)) thresh ≡ true → places (i + 1) ≡ places i + 1
    unfolding places
    places_more e = ap length (more e) ∙ length-append (first i) (i ∷ [])

    pub left_same : le (root_of (get_or qs i nan)) thresh ≡ false → left (i + 1) ≡ left i
    unfolding left
    left_same e = rw (places_same e, same e)

    pub left_more : length qs ≤ length entry → le (root_of (get_or qs i nan)) thresh ≡ true → left (i + 1) ≡ set (left i) (places i) i
    unfolding left places
    left_more room e =
        let w : length (first i) ≤ i = places_few in
        rw (more e, length-append) (sym (stored (first i) entry i refl (omega (arith, w, here, room))))

  module _ {i : ℕ} (end : length qs ≤ i) where
    pub places_all : places i ≡ count_in thresh (map root_of qs)
    unfolding places
    places_all = rw (take_all i qs end) (indices_count thresh (map root_of qs))

    pub left_all : left i ≡ indices_in thresh (map root_of qs) ++ drop (length (indices_in thresh (map root_of qs))) entry
    unfolding left places
    left_all = rw (take_all i qs end)

pub ruleset placing = (places_none, left_none, places_few, places_same, places_more, left_same, left_more, places_all, left_all)
