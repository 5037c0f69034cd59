-- The programs' constants are the roots of 2 and 3. Assumes nothing.
use Rattle.std.proofs.Common.{◌≡◌, refl}
use lib.Count.{count_leading_zeros}
use lib.Ieee.{Float, binary64, of_bits, to_bits}
use Rattle.root.specs.Digits.{taken, one_more, after_digits, whole_root}
use Rattle.root.specs.Root.{significand, exponent, shift_of, shift, scaled, height, root_bits, root_of}
use Rattle.numbers.specs.Constants.{two, three}

-- 1.4142135623730951
abbrev pub root_2 : Float
root_2 = of_bits binary64 0x3ff6_a09e_667f_3bcd

pub root_of_2 : root_of two ≡ root_2
unfolding of_bits to_bits count_leading_zeros taken one_more after_digits whole_root significand exponent shift_of shift scaled height root_bits root_of
root_of_2 = refl

-- 1.7320508075688772
abbrev pub root_3 : Float
root_3 = of_bits binary64 0x3ffb_b67a_e858_4caa

pub root_of_3 : root_of three ≡ root_3
unfolding of_bits to_bits count_leading_zeros taken one_more after_digits whole_root significand exponent shift_of shift scaled height root_bits root_of
root_of_3 = refl
