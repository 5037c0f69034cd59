-- `root::next_digits` meets its contract: the places that the loop has come to hold what they should after the digit, and the others before it. Assumes nothing.
use Rattle.std.proofs.Common.{◌≡◌, ◌+◌, ◌/◌, ◌≤◌, ◌<◌, ℕ, length}
use Rattle.root.specs.Digits.{HoldsAt}
use Rattle.root.proofs.next_digits.Given as goal

abbrev pub invariant-loop-k : goal.invariant-loop-k
invariant-loop-k g l = record {
  long : length l.s ≡ length l.fn.n;
  next : (j : ℕ) → j < l.k → HoldsAt l.fn.n (l.fn.count + 1) l.s (l.fn.unit / 2) j;
  held : (j : ℕ) → l.k ≤ j → j < length l.fn.n → HoldsAt l.fn.n l.fn.count l.s l.fn.unit j;
}
