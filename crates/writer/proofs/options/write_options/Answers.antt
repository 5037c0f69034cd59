-- `writer::write_options` meets its contract. The check finds this too, with less than half its time to spare. Assumes nothing.
use native.Mathlib.Omega.{arith}
use Rattle.writer.proofs.OfOptions.{options_answered, options_laid}
use Rattle.writer.proofs.options.write_options.Goals as goal

pub returns-clause-out_after : goal.returns-clause-out_after
unfolding Rattle.writer.specs.Format.written Rattle.rule.specs.Order.if_passed
returns-clause-out_after c = grind (arith, options_answered, options_laid)
