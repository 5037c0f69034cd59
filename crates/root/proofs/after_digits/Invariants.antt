-- `root::after_digits` meets its contract. Assumes nothing.
use Rattle.std.proofs.Common.{◌≡◌, ◌*◌, ◌^◌, ◌<◌, ℕ, length}
use Rattle.root.specs.Digits.{HoldsAt, AllHold}
use Rattle.root.proofs.after_digits.Given as goal

abbrev pub invariant-loop-k : goal.invariant-loop-k
invariant-loop-k g l = record { long : length l.s ≡ length l.n; begun : (j : ℕ) → j < l.k → HoldsAt l.n 0 l.s (2 ^ 55) j }

abbrev pub invariant-loop-turn : goal.invariant-loop-turn
invariant-loop-turn g l = AllHold l.n (6 * l.turn) l.s l.unit

abbrev pub invariant-loop-more : goal.invariant-loop-more
invariant-loop-more g l = AllHold l.n l.more l.s l.unit
