-- `book::picking_rule` meets its contract. Assumes nothing.
use Rattle.book.proofs.Picked.{picking_rule}
use Rattle.book.proofs.picking_rule.Goals as goal

pub returns : goal.returns
returns g c = picking_rule
