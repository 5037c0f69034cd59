-- `fields::write_all` meets its contract. Assumes nothing.
use mathlib.Core.Path.{◌≡◌}
use Rattle.fields.proofs.Writing.{put_after}
use Rattle.fields.proofs.write_all.Given as goal

abbrev pub invariant-loop-i : goal.invariant-loop-i
invariant-loop-i g l = l.bytes ≡ put_after g.T.Field.bytes g.T.Field.WIDTH l.items l.initial.bytes l.i
