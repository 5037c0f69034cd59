-- `root::six_digits` meets its contract. Assumes nothing.
use Rattle.root.specs.Digits.{AllHold}
use Rattle.std.proofs.Common.{◌≡◌, ◌+◌, ◌/◌, ◌^◌}
use Rattle.root.proofs.six_digits.Given as goal

abbrev pub invariant-loop-more : goal.invariant-loop-more
invariant-loop-more g l = record { held : AllHold l.n (l.count + l.more) l.s l.part; part : l.part ≡ l.unit / 2 ^ l.more }
