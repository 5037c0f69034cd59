-- A root mean square is no NaN: where no mark is within, and by their number where some are. Assumes nothing.
use mathlib.Core.Path.{◌≡◌, refl}
use mathlib.Core.Bool.{false}
use mathlib.Core.List.{List}
use Prim.Native.Nat.{ℕ, ◌^◌, ◌<◌}
use native.Mathlib.Omega.{arith}
use borrow.Author.Tests.{ne_eqb}
use lib.IntN.{pos}
use lib.Ieee.{Float, binary64, is_nan, of_bits, of_int}
use Rattle.rule.specs.Arith.{◌⊘◌}
use Rattle.root.specs.Root.{root_of}
use Rattle.numbers.specs.Constants.{infinity}
use Rattle.book.specs.Score.{squares_in, rms_of}
use Rattle.book.proofs.Clear.{rms_number}

pub endless : is_nan infinity ≡ false
unfolding is_nan of_bits
endless = refl

pub by_count : (count : ℕ) (thresh : Float) (ds : List Float) → (count ≡ 0 → ⊥) → count < 2 ^ 32 → is_nan (root_of (squares_in thresh ds ⊘ of_int binary64 (pos count))) ≡ false
unfolding rms_of
by_count count thresh ds some few = rw (ne_eqb count 0 some) at (rms_number count thresh ds (omega (arith, few)))

pub ruleset numbers = (endless, by_count)
