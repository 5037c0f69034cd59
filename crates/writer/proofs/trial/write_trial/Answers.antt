-- `writer::write_trial` meets its contract. The check finds this too, with less than half its time to spare. Assumes nothing.
use native.Mathlib.Omega.{arith}
use Rattle.writer.proofs.OfTrial.{trial_answered, trial_laid}
use Rattle.writer.proofs.trial.write_trial.Goals as goal

pub returns-clause-out_after : goal.returns-clause-out_after
unfolding Rattle.writer.specs.Format.written Rattle.rule.specs.Order.if_passed
returns-clause-out_after c = grind (arith, trial_answered, trial_laid)
