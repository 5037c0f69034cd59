-- A sum of the squares of the distances within a threshold, where the root of one square may still have to be taken.
use Rattle.std.specs.Prelude.{cond, Float, Option, Some, None}
use Rattle.std.specs.Float.Ieee.{le}
use Rattle.rule.specs.Arith.{◌⊕◌}
use Rattle.root.specs.Root.{root_of}
use Rattle.book.specs.Score.{square}

-- a sum, with the square of a distance that is within
unfoldable pub within_added : Float → Float → Float → Float
within_added thresh sum d = cond (le d thresh) (sum ⊕ square d) sum

-- a sum, with the one that waits for its root
abbrev pub with_waiting : Float → Float → Option Float → Float
with_waiting thresh sum None = sum
with_waiting thresh sum (Some q) = within_added thresh sum (root_of q)
