-- `root::sqrt` meets its contract: it is the definition's root, and so the only one (`root_correct`). Assumes nothing.
use mathlib.Core.Path.{sym, ap, subst, ◌∙◌}
use lib.Dec.{T}
use Rattle.root.specs.Root.{root_of}
use Rattle.root.proofs.Correct.{root_correct}
use Rattle.root.proofs.sqrt.Goals as goal

pub returns-then-is_plain-clause-correct : goal.returns-then-is_plain-clause-correct
returns-then-is_plain-clause-correct c = rw (c.rounded.ensures ∙ ap root_of c.scale-s.ensures) (root_correct _ (subst T (sym c.well_formed.0.1) tt))
