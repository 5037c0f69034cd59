-- `writer::short_made` meets its contract. Assumes nothing.
use Rattle.writer.proofs.Readers.{short_made}
use Rattle.writer.proofs.theorems.short_made.Goals as goal

pub returns : goal.returns
returns c = short_made
