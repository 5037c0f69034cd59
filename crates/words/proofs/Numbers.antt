-- Numbers written one by one, each as its word. Assumes nothing.
use mathlib.Core.Path.{◌≡◌, refl, sym, ◌∙◌}
use mathlib.Core.List.{List, ◌++◌, map}
use Prim.Native.Nat.{ℕ, ◌+◌, ◌*◌, ◌≤◌, ◌<◌}
use native.Mathlib.Nat.{le_of_eq}
use lib.Ieee.{Float, nan}
use lib.ListN.{length, get_or, take, drop, set, replicate, length-map, length-replicate, get_or-map}
use Rattle.rule.specs.Lists.{for_each}
use Rattle.rule.proofs.Lists.{alone, stored_more, stored_all, filled-whole}
use Rattle.words.specs.Words.{bits}

module _ (l : List Float) (n : ℕ) where
  abbrev zeros : List ℕ
  zeros = replicate n 0

  -- n words after the first i numbers
  unfoldable pub words_after : ℕ → List ℕ
  words_after i = for_each alone (take i (map bits l)) ++ drop (1 * i) zeros

  pub words_none : words_after 0 ≡ zeros
  unfolding words_after for_each
  words_none = refl

  module _ (long : length l ≡ n) where
    count : n ≡ length (map bits l)
    count = sym (length-map l bits ∙ long)

    room : n ≤ length zeros
    room = le_of_eq (sym (length-replicate n 0))

    pub words_more : (i : ℕ) → i < n → words_after (i + 1) ≡ set (words_after i) i (bits (get_or l i nan))
    unfolding words_after
    words_more i h = sym (stored_more (map bits l) zeros count room (bits nan) h (sym (get_or-map bits l i nan)) (record { is = refl })).is

    pub words_all : (i : ℕ) → i ≡ n → words_after i ≡ map bits l
    unfolding words_after
    words_all i h = stored_all (map bits l) zeros count room (le_of_eq h) (le_of_eq (sym h)) (record { is = refl }) ∙ filled-whole (map bits l) zeros (length-replicate n 0 ∙ count)
