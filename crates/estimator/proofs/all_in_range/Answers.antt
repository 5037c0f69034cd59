-- `estimator::all_in_range` meets its contract. Assumes nothing.
use Rattle.std.proofs.Common.{sym, ◌∙◌, arith}
use Rattle.numbers.specs.Constants.{farthest}
use Rattle.estimator.proofs.Range.{part_fails, parts_pass}
use Rattle.estimator.proofs.all_in_range.Goals as goal

pub returns-then-not-part_in_range : goal.returns-then-not-part_in_range
returns-then-not-part_in_range c = part_fails farthest _ _ _ c.as_chunks.ensures.front c.as_chunks.ensures.back _ _ c.loop-part-test.true (sym c.part_in_range.ensures ∙ c.if-not-part_in_range.true)

pub returns : goal.returns
returns c = c.part_in_range-2.ensures ∙ parts_pass farthest _ _ _ c.as_chunks.ensures.front c.as_chunks.ensures.back _ (omega (arith, c.loop-part.auto.part-index-end, c.loop-part-test.false)) c.loop-part.invariant
