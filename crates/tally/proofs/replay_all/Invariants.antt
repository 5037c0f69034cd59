-- What was read so far is whole records, and the scores are theirs.
use Rattle.std.proofs.Common.{length}
use Rattle.tally.proofs.Records.{Whole}
use Rattle.tally.proofs.replay_all.Given as goal

abbrev pub invariant-records : goal.invariant-records
invariant-records g l = Whole (length l.initial.buffer) g.A.Answers.says (g.R.Read.remaining l.initial.file) (g.R.Read.remaining l.file) l.scores
