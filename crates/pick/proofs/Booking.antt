-- What an open state's counts are, as the code before the end needs them. Assumes nothing.
use mathlib.Core.Path.{◌≡◌}
use mathlib.Core.Bool.{false}
use Rattle.book.specs.Calls.{is_closed}
use Rattle.booking.proofs.Laws.{Small, small}
use Rattle.pick.specs.Run.{book_of}
use Rattle.pick.specs.declared.run_state.State.{State}

pub open_counts : {E M : Type 0} (s : State E M) → is_closed (book_of s) ≡ false → Small s.counts.read s.counts.empty s.counts.few s.counts.scored
unfolding is_closed
open_counts s h = small _ _ _ _ _ h
