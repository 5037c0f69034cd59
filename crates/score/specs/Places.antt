-- Document 01, 'Winner': the places of the distances within the threshold, and where they are written.
use Rattle.std.specs.Prelude.{Bool, cond, ◌||◌, List, ◌++◌, ℕ, ltb, length, drop, Float}
use Rattle.rule.specs.Lists.{places_from}
use Rattle.book.specs.Score.{close, count_in}

-- the places, from 0, of the distances that are at most the threshold, ascending
unfoldable pub indices_in : Float → List Float → List ℕ
indices_in thresh ds = places_from 0 (close thresh) ds

-- Indices are written where there is a place for each mark and there are no more than 2,000. Else nothing is.
unfoldable pub cramped : List Float → List ℕ → Bool
cramped ds entry = ltb (length entry) (length ds) || ltb 2000 (length ds)

unfoldable pub indexed : Float → List Float → List ℕ → List ℕ
indexed thresh ds entry = cond (cramped ds entry) entry (indices_in thresh ds ++ drop (length (indices_in thresh ds)) entry)

unfoldable pub index_count : Float → List Float → List ℕ → ℕ
index_count thresh ds entry = cond (cramped ds entry) 0 (count_in thresh ds)
