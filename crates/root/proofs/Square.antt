-- The square of a root is not far below the number: with the root's square as an exact product, the number times 1 - 2 ^ -52 is not above it.
-- On patterns, and in units of 2 ^ -1074. Assumes nothing.
use mathlib.Core.Path.{◌≡◌, ap, ◌∙◌}
use Prim.Native.Nat.{ℕ, ◌+◌, ◌-◌, ◌*◌, ◌^◌, ◌≤◌, ◌<◌}
use native.Mathlib.Nat.{mul-le-mul, mul-le-mul_right, mul-mul-mul_comm}
use native.Mathlib.Numerals.{add-one}
use native.Mathlib.Omega.{arith}
use lib.Dec.{lit≤}
use lib.Pow.{pow_pos}
use lib.Ieee.Positive.{through}
use Rattle.root.specs.Root.{exponent, root_bits}
use Rattle.root.proofs.Patterns.{value, value_next, significand-high}
use Rattle.root.proofs.Bits.{root_bits-root, root_bits_normal}

-- a normal double's last place is at most 2 ^ -52 of it
last_place : (p : ℕ) → 2 ^ 52 ≤ p → 2 ^ 52 * 2 ^ exponent p ≤ value p
unfolding value
last_place p h =
    let m = significand-high p h in
    mul-le-mul_right (2 ^ exponent p) (omega arith)

-- the upper midpoint is at most 1 + 2 ^ -53 times the double
midpoint_near : (p : ℕ) → 2 ^ 52 ≤ p → 2 ^ 52 * (value p + value (p + 1)) ≤ (2 ^ 53 + 1) * value p
midpoint_near p h =
    let u : value (p + 1) ≡ value p + 2 ^ exponent p = ap value (add-one p) ∙ value_next p in
    let l = last_place p h in
    omega arith

-- (1 + 2 ^ -53) ^ 2 * (1 - 2 ^ -52) is below 1. `a` is the number, `d` its root, and `s` twice the upper midpoint
shrunk_below : (a d s : ℕ) → 4 * a < s * s → 2 ^ 52 * s ≤ (2 ^ 53 + 1) * d → a * (2 ^ 53 - 2) ≤ 2 ^ 53 * (d * d)
shrunk_below a d s h l =
    let x : 2 ^ 52 * s * (2 ^ 52 * s) ≡ 2 ^ 104 * (s * s) = mul-mul-mul_comm (2 ^ 52) s (2 ^ 52) s in
    let y : (2 ^ 53 + 1) * d * ((2 ^ 53 + 1) * d) ≡ (2 ^ 106 + 2 ^ 54 + 1) * (d * d) = mul-mul-mul_comm (2 ^ 53 + 1) d (2 ^ 53 + 1) d in
    let q : 2 ^ 52 * s * (2 ^ 52 * s) ≤ (2 ^ 53 + 1) * d * ((2 ^ 53 + 1) * d) = mul-le-mul l l in
    let c : a * 2 ^ 106 ≤ (2 ^ 106 + 2 ^ 54 + 1) * (d * d) = omega arith in
    through a (2 ^ 106 + 2 ^ 54 + 1) (2 ^ 53) (d * d) (2 ^ 106) (2 ^ 53 - 2) (pow_pos 106) c (lit≤ tt)

pub root-square : (b : ℕ) → 0 < b → value b * 2 ^ 1074 * (2 ^ 53 - 2) ≤ 2 ^ 53 * (value (root_bits b) * value (root_bits b))
root-square b pos =
    let p = root_bits b in
    shrunk_below (value b * 2 ^ 1074) (value p) (value p + value (p + 1)) (root_bits-root b pos).upper (midpoint_near p (root_bits_normal b pos))
