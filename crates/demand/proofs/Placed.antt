-- The places of those that pass a test are all of them, no others, and ascending. Assumes nothing.
use mathlib.Core.Path.{◌≡◌, refl, sym, subst, ◌∙◌}
use mathlib.Core.Bool.{Bool, true, false, cond}
use mathlib.Core.List.{List, [], ◌∷◌}
use Prim.Native.Nat.{ℕ, zero, suc, ◌+◌, ◌<◌}
use native.Mathlib.Nat.{add-zero, zero-add, zero-lt-suc}
use native.Mathlib.Omega.{arith}
use lib.ListN.{length, get_or}
use Rattle.rule.specs.Lists.{places_from}
use Rattle.book.specs.Rule.{Among, first, later}
use Rattle.book.proofs.Winners.{among_none}
use Rattle.demand.specs.Demand.{Ascending, nothing, single, more, Exactly}

module _ {A : Type 0} (test : A → Bool) (d : A) where
  on : (j : ℕ) (a : A) (l : List A) (i : ℕ) → Among i (places_from (j + 1) test l) → Among i (places_from j test (a ∷ l))
  unfolding places_from
  on j a l i h = go (test a)
    where
      go : (b : Bool) → Among i (cond b (j ∷ places_from (j + 1) test l) (places_from (j + 1) test l))
      go true = later h
      go false = h

  all_places : (j : ℕ) (l : List A) (p : ℕ) → p < length l → test (get_or l p d) ≡ true → Among (j + p) (places_from j test l)
  unfolding places_from
  all_places j [] p h t = absurd (omega (arith, h))
  all_places j (a ∷ l) zero h t = rw (add-zero j, t) first
  all_places j (a ∷ l) (suc p) h t =
      subst (λ i. Among i (places_from j test (a ∷ l))) (let e : j + 1 + p ≡ j + suc p = omega arith in e) (on j a l (j + 1 + p) (all_places (j + 1) l p (omega (arith, h)) t))

  -- a place that is among them
  abbrev Passes : ℕ → List A → ℕ → Type 0
  Passes j l i = (p : ℕ) × ((i ≡ j + p) × (p < length l) × (test (get_or l p d) ≡ true))

  next_place : (j : ℕ) (a : A) (l : List A) (i : ℕ) → Passes (j + 1) l i → Passes j (a ∷ l) i
  next_place j a l i q = (suc q.0, (let e = q.1.0 in omega (arith, e), let k = q.1.1 in omega (arith, k), q.1.2))

  -- of a list whose first place is among them or not
  only_cons : (j : ℕ) (a : A) (l : List A) (i : ℕ) (xs : List ℕ) → test a ≡ true → (Among i xs → Passes (j + 1) l i) → Among i (j ∷ xs) → Passes j (a ∷ l) i
  only_cons j a l i xs t rest first = (0, (sym (add-zero j), zero-lt-suc (length l), t))
  only_cons j a l i xs t rest (later m) = next_place j a l i (rest m)

  only_places : (j : ℕ) (l : List A) (i : ℕ) → Among i (places_from j test l) → Passes j l i
  unfolding places_from
  only_places j [] i h = absurd (among_none h)
  only_places j (a ∷ l) i h = go (test a) refl (λ m. only_places (j + 1) l i m) h
    where
      go : (b : Bool) → test a ≡ b → (Among i (places_from (j + 1) test l) → Passes (j + 1) l i) → Among i (cond b (j ∷ places_from (j + 1) test l) (places_from (j + 1) test l)) → Passes j (a ∷ l) i
      go true t rest m = only_cons j a l i (places_from (j + 1) test l) t rest m
      go false t rest m = next_place j a l i (rest m)

  -- ---- ascending

  put_first : (j : ℕ) (xs : List ℕ) → ((i : ℕ) → Among i xs → j < i) → Ascending xs → Ascending (j ∷ xs)
  put_first j [] above up = single
  put_first j (x ∷ xs) above up = more (above x first) up

  places_up : (j : ℕ) (l : List A) → Ascending (places_from j test l)
  unfolding places_from
  places_up j [] = nothing
  places_up j (a ∷ l) = go (test a) (places_up (j + 1) l)
    where
      go : (b : Bool) → Ascending (places_from (j + 1) test l) → Ascending (cond b (j ∷ places_from (j + 1) test l) (places_from (j + 1) test l))
      go true up = put_first j (places_from (j + 1) test l) (λ i m. let q = only_places (j + 1) l i m in let e = q.1.0 in omega (arith, e)) up
      go false up = up

  pub places_exactly : (l : List A) → Exactly (length l) (λ i. test (get_or l i d)) (places_from 0 test l)
  places_exactly l =
      record {
        all = λ i h t. subst (λ k. Among k (places_from 0 test l)) (zero-add i) (all_places 0 l i h t);
        no_others =
            λ i m.
            let q = only_places 0 l i m in
            let e : i ≡ q.0 = q.1.0 ∙ zero-add q.0 in
            (rw e q.1.1, rw e q.1.2);
        ascending = places_up 0 l;
      }
