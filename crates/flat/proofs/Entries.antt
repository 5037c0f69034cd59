-- The entry at a place of a matrix whose rows have w cells each, by its row and its place there; and of the matrix of a call, or the one that stands for it
-- where the call is refused. Assumes nothing.
use mathlib.Core.Path.{◌≡◌, sym, ap, ◌∙◌}
use mathlib.Core.List.{List, [], ◌∷◌}
use Prim.Native.Nat.{ℕ, zero, suc, ◌+◌, ◌*◌, ◌/◌, ◌%◌, ◌≤◌, ◌<◌}
use native.Mathlib.Omega.{arith}
use lib.Ieee.{Float, nan}
use lib.ListN.{length, get_or, length-append}
use Rattle.std.proofs.Math.Nat.{zero-add, mul-zero, mul-suc, mul_comm, div-add-mod, div-lt_iff_lt-mul, mod-lt}
use Rattle.std.proofs.lemmas.List.{get_or_append_left, get_or-append-add}
use Rattle.rule.specs.declared.Refusal.{Refusal}
use Rattle.rule.specs.Refusal.{number_of}
use Rattle.rule.specs.Answer.{refused, gives}
use Rattle.rule.specs.Lists.{for_each}
use Rattle.rule.specs.Order.{decided, if_passed}
use Rattle.rule.proofs.Lists.{past_end}
use Rattle.rule.proofs.Order.{decided-gives}
use Rattle.flat.specs.Flat.{entry_of}
use Rattle.flat.proofs.Decided.{value_refused}

module _ {Row : Type 0} (cells : Row → List Float) (w : ℕ) where
  -- each row has w cells
  abbrev pub Wide : List Row → Type 0
  Wide [] = Unit
  Wide (row ∷ rows) = (length (cells row) ≡ w) × Wide rows

  entry_count : (rows : List Row) → Wide rows → length (for_each cells rows) ≡ w * length rows
  unfolding for_each
  entry_count [] h = sym (mul-zero w)
  entry_count (row ∷ rows) h = rw (length-append, h.0, entry_count rows h.1, mul-suc w (length rows)) (omega arith)

  entry_past : (rows : List Row) → Wide rows → (place : ℕ) → w * length rows ≤ place → nan ≡ entry_of cells place rows
  entry_past rows h place past = past_end (for_each cells rows) place nan (rw (entry_count rows h) past)

  entry_in : (none : Row) (rows : List Row) → Wide rows → (q k : ℕ) → q < length rows → k < w → get_or (cells (get_or rows q none)) k nan ≡ entry_of cells (w * q + k) rows
  unfolding for_each
  entry_in none [] h q k inside short = absurd (omega (arith, inside))
  entry_in none (row ∷ rows) h zero k inside short =
      rw (mul-zero w, zero-add k) (sym (get_or_append_left (cells row) (for_each cells rows) nan k (rw h.0 short)))
  entry_in none (row ∷ rows) h (suc q) k inside short =
      let e : w * suc q + k ≡ length (cells row) + (w * q + k) = omega (arith, mul-suc w q, h.0) in
      entry_in none rows h.1 q k (omega (arith, inside)) short
      ∙ sym (rw e (get_or-append-add (cells row) (for_each cells rows) (w * q + k) nan))

  -- a program's way: the row, then the place in it
  abbrev pub in_rows : (none : Row) → ℕ → List Row → Float
  in_rows none place rows = get_or (cells (get_or rows (place / w) none)) (place % w) nan

  entry_at : (none : Row) (rows : List Row) → Wide rows → zero < w → (place : ℕ) → place < w * length rows → in_rows none place rows ≡ entry_of cells place rows
  entry_at none rows h some place inside =
      entry_in none rows h (place / w) (place % w) ((div-lt_iff_lt-mul some).1 (rw (mul_comm (length rows) w) inside)) (mod-lt place some)
      ∙ ap (λ p. entry_of cells p rows) (div-add-mod place w)

  -- ---- of a call that is decided by the first test it fails, k

  module _ {A : Type 0} (matrix : A → List Row) (other : List Row) (k : ℕ) (a : A) (place : ℕ) where
    pub past : Wide (matrix a) → Wide other → w * length (matrix a) ≤ place → w * length other ≤ place → nan ≡ entry_of cells place (if_passed k (matrix a) other)
    unfolding if_passed
    past h g i j = go k
      where
        go : (k : ℕ) → nan ≡ entry_of cells place (if_passed k (matrix a) other)
        go zero = entry_past (matrix a) h place i
        go (suc k) = entry_past other g place j

    pub given : (none : Row) {b : A} → Wide (matrix a) → zero < w → place < w * length (matrix a) → gives b ≡ decided k a → in_rows none place (matrix b) ≡ entry_of cells place (if_passed k (matrix a) other)
    unfolding if_passed
    given none h some inside e = let gave = decided-gives k e in rw (gave.0) (ap (λ b. in_rows none place (matrix b)) gave.1 ∙ entry_at none (matrix a) h some place inside)

    pub refused_so : (e : Refusal) → refused (number_of e) ≡ decided k a → entry_of cells place other ≡ entry_of cells place (if_passed k (matrix a) other)
    refused_so e h = ap (entry_of cells place) (value_refused k a matrix other e h)
