-- `fields::read_words` meets its contract. Assumes nothing.
use mathlib.Core.Path.{◌≡◌}
use Rattle.fields.proofs.Reading.{words_after}
use Rattle.fields.proofs.read_words.Given as goal

abbrev pub invariant-loop-i : goal.invariant-loop-i
invariant-loop-i l = l.words ≡ words_after l.bytes l.initial.words l.i
