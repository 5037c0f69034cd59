-- `root::scale` meets its contract. The two fields and the shift are those of `scaled` and `height`, and nothing wraps on the way. Assumes nothing.
use mathlib.Core.Path.{sym, subst}
use lib.Dec.{T}
use Prim.Native.Nat.{◌*◌, ◌^◌, ◌<◌}
use native.Mathlib.Omega.{arith}
use lib.Ieee.{binary64, to_bits}
use Rattle.root.proofs.Bits.{fields, Shifted, shifted, is_scaled}
use Rattle.root.proofs.Doubles.{no_nan, pattern_finite}
use Rattle.root.proofs.scale.Goals.{Start, After-shift_of-s}
use Rattle.root.proofs.scale.Goals as goal

pub float_to_bits-b : goal.float_to_bits-b
float_to_bits-b c = no_nan _ c.requires

finite : (c : Start) → (0 < to_bits binary64 c.args.a) × (to_bits binary64 c.args.a < 2047 * 2 ^ 52)
finite c = pattern_finite _ (subst T (sym c.well_formed.0.1) tt) c.requires

pub shift_of-s-requires : goal.shift_of-s-requires
shift_of-s-requires c =
    let p = finite (goal.at.shift_of-s-requires c).Start in
    let f = fields _ _ _ p.0 p.1 c.significand_of-m.ensures c.exponent_of-e.ensures in
    (f.pos, (f.short, f.low))

-- what is known once the shift is

facts : (c : After-shift_of-s)
    → Shifted (to_bits binary64 c.args.a) c.significand_of-m.result c.exponent_of-e.result c.shift_of-s.result
facts c =
    let p = finite (goal.at.overflow_shl-result c).Start in
    shifted _ _ _ _ p.0 p.1 c.significand_of-m.ensures c.exponent_of-e.ensures
    c.shift_of-s.ensures

pub overflow_shl-result : goal.overflow_shl-result
overflow_shl-result c = let f = facts c in omega arith

pub overflow_add-result : goal.overflow_add-result
overflow_add-result c = let f = facts c in omega arith

pub overflow_sub-result : goal.overflow_sub-result
overflow_sub-result c = let f = facts c in omega arith

pub overflow_mul-result : goal.overflow_mul-result
overflow_mul-result c = let f = facts c in omega arith

pub invariant_of-result : goal.invariant_of-result
invariant_of-result c =
    let f = facts c in
    let p = finite (goal.at.invariant_of-result c).Start in
    record {
      plain = c.requires;
      short = rw f.up f.short;
      finite = p;
      scaled = is_scaled _ _ _ _ f;
    }
