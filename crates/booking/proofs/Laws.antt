-- What an open state's counts are: one more overflows none. Assumes nothing.
use mathlib.Core.Path.{◌≡◌}
use mathlib.Core.Bool.{false}
use Prim.Native.Nat.{ℕ, ◌≤◌, ◌<◌}
use native.Mathlib.Omega.{arith}
use Rattle.std.proofs.lemmas.Bool.Decides.{nat_tests}
use Rattle.book.specs.Book.{ended_at}
use Rattle.book.specs.Calls.{closed_at}

pub record Small (read empty few scored : ℕ) : Type 0 where
  pub reads : read < 100000
  pub empties : empty ≤ read
  pub fews : few ≤ read
  pub scores : scored ≤ read

pub small : (read empty few scored bound : ℕ) → closed_at read empty few scored bound ≡ false → Small read empty few scored
unfolding closed_at ended_at
small read empty few scored bound h = record { reads = grind (arith, nat_tests); empties = grind (arith, nat_tests); fews = grind (arith, nat_tests); scores = grind (arith, nat_tests) }
