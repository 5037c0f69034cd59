-- `root::rounded` meets its contract. Assumes nothing.
use native.Mathlib.Omega.{arith}
use lib.Ieee.{binary64, to_bits}
use Rattle.rule.proofs.Nan.{no_nan_bits}
use Rattle.root.proofs.Bits.{Rounded, rounded_is}
use Rattle.root.proofs.Doubles.{root-read}
use Rattle.root.proofs.rounded.Goals.{Start}
use Rattle.root.proofs.rounded.Goals as goal

known : (c : Start) → Rounded (to_bits binary64 c.args.s.a) c.args.s.place c.args.d.root
known c = rounded_is _ _ _ _ _ c.args.s.finite c.args.s.scaled c.requires

pub overflow_add-result : goal.overflow_add-result
overflow_add-result c = let k = known (goal.at.overflow_add-result c).Start in omega arith

pub overflow_add-result-2 : goal.overflow_add-result-2
overflow_add-result-2 c = let k = known (goal.at.overflow_add-result-2 c).Start in omega arith

pub float_from_bits-result : goal.float_from_bits-result
float_from_bits-result c = no_nan_bits _ (let k = known (goal.at.float_from_bits-result c).Start in omega arith)

pub returns : goal.returns
returns c = root-read _ _ c.args.s.plain (known (goal.at.returns c).Start).is
