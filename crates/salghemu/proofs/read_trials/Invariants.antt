-- `salghemu::read_trials` meets its contract. Assumes nothing.
use Rattle.salghemu.proofs.Going.{Going}
use Rattle.salghemu.proofs.read_trials.Given as goal

abbrev pub invariant-loop-bytes : goal.invariant-loop-bytes
invariant-loop-bytes l = Going l.fn.o l.marks l.stops l.parts l.bytes-index l.s
