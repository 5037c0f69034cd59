-- `words::writing::number_words` meets its contract. Assumes nothing.
use Rattle.std.proofs.Common.{◌≡◌, length}
use Rattle.words.proofs.Numbers.{words_after}
use Rattle.words.proofs.writing.number_words.Given as goal

abbrev pub invariant-loop-i : goal.invariant-loop-i
invariant-loop-i g l = record { long : length l.numbers ≡ g.row.N; so_far : l.words ≡ words_after l.numbers g.row.N l.i }
