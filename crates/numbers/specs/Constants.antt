-- The doubles that documents 01 and 02 write as numbers, by their bit patterns, as a program's literals are. Beside each decimal stands the proof that the
-- pattern is that decimal, rounded to the nearest double.
use Rattle.std.specs.Prelude.{◌≡◌, refl, ◌^◌, false, Float}
use Rattle.std.specs.Float.{binary64}
use Rattle.std.specs.Float.Ieee.{of_bits, round}

abbrev pub zero' : Float
zero' = of_bits binary64 0

abbrev pub one : Float
one = of_bits binary64 0x3ff0_0000_0000_0000

abbrev pub two : Float
two = of_bits binary64 0x4000_0000_0000_0000

abbrev pub three : Float
three = of_bits binary64 0x4008_0000_0000_0000

abbrev pub four : Float
four = of_bits binary64 0x4010_0000_0000_0000

one_is : one ≡ round binary64 false 1 1
unfolding of_bits round
one_is = refl

two_is : two ≡ round binary64 false 2 1
unfolding of_bits round
two_is = refl

three_is : three ≡ round binary64 false 3 1
unfolding of_bits round
three_is = refl

four_is : four ≡ round binary64 false 4 1
unfolding of_bits round
four_is = refl

-- 2 ^ -52, the gap between 1 and the next double: Rust's f64::EPSILON
abbrev pub epsilon : Float
epsilon = of_bits binary64 0x3cb0_0000_0000_0000

epsilon_is : epsilon ≡ round binary64 false 1 (2 ^ 52)
unfolding of_bits round
epsilon_is = refl

-- 1e-12, below which a coefficient or a discriminant counts as 0
abbrev pub tiny : Float
tiny = of_bits binary64 0x3d71_9799_812d_ea11

tiny_is : tiny ≡ round binary64 false 1 (10 ^ 12)
unfolding of_bits round
tiny_is = refl

-- 1e-8, below which two roots count as one
abbrev pub near : Float
near = of_bits binary64 0x3e45_798e_e230_8c3a

near_is : near ≡ round binary64 false 1 (10 ^ 8)
unfolding of_bits round
near_is = refl

-- 0.99, the confidence of options made from a threshold alone
abbrev pub usual_confidence : Float
usual_confidence = of_bits binary64 0x3fef_ae14_7ae1_47ae

usual_confidence_is : usual_confidence ≡ round binary64 false 99 100
unfolding of_bits round
usual_confidence_is = refl

-- 0.01 and 100, the ends of the row ratios
abbrev pub least_ratio : Float
least_ratio = of_bits binary64 0x3f84_7ae1_47ae_147b

least_ratio_is : least_ratio ≡ round binary64 false 1 100
unfolding of_bits round
least_ratio_is = refl

abbrev pub greatest_ratio : Float
greatest_ratio = of_bits binary64 0x4059_0000_0000_0000

greatest_ratio_is : greatest_ratio ≡ round binary64 false 100 1
unfolding of_bits round
greatest_ratio_is = refl

-- 1e100, the largest magnitude of a coefficient
abbrev pub most : Float
most = of_bits binary64 0x54b2_49ad_2594_c37d

most_is : most ≡ round binary64 false (10 ^ 100) 1
unfolding of_bits round
most_is = refl

-- 1e9, the largest magnitude of a coordinate
abbrev pub farthest : Float
farthest = of_bits binary64 0x41cd_cd65_0000_0000

farthest_is : farthest ≡ round binary64 false (10 ^ 9) 1
unfolding of_bits round
farthest_is = refl

-- 1e-9, the largest distance of two points that count as the same
abbrev pub same_point : Float
same_point = of_bits binary64 0x3e11_2e0b_e826_d695

same_point_is : same_point ≡ round binary64 false 1 (10 ^ 9)
unfolding of_bits round
same_point_is = refl

-- 1e-6, the largest magnitude of the cross product of a point that counts as on a line
abbrev pub on_line : Float
on_line = of_bits binary64 0x3eb0_c6f7_a0b5_ed8d

on_line_is : on_line ≡ round binary64 false 1 (10 ^ 6)
unfolding of_bits round
on_line_is = refl

abbrev pub infinity : Float
infinity = of_bits binary64 0x7ff0_0000_0000_0000
