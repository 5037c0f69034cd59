-- Files and records as lists of bytes (document 01: 'Numbers in files are little-endian'): fields of w bytes, one after the other, and the numbers in them.
use Rattle.std.specs.Prelude.{Bool, List, [], ◌∷◌, map, ℕ, zero, suc, ◌+◌, ◌*◌, ◌/◌, ◌%◌, ltb, eqb, get_or, take, drop, Float}
use Rattle.std.specs.Float.{binary64}
use Rattle.std.specs.Float.Ieee.{of_bits, to_bits}
use Rattle.rule.specs.Lists.{every, parts_of}

-- ---- reading

-- the number that bytes spell, the lowest first
unfoldable pub little_endian : List ℕ → ℕ
little_endian [] = 0
little_endian (b ∷ bs) = b + 256 * little_endian bs

-- all whole fields of w bytes; what is left over at the end is no field
unfoldable pub fields_of : (w : ℕ) → List ℕ → List ℕ
fields_of w l = map little_endian (parts_of w l)

unfoldable pub words_of : List ℕ → List ℕ
words_of l = fields_of 4 l

unfoldable pub longs_of : List ℕ → List ℕ
longs_of l = fields_of 8 l

-- eight bytes as a double, by its bit pattern; all NaNs are one
unfoldable pub doubles_of : List ℕ → List Float
doubles_of l = map (of_bits binary64) (longs_of l)

-- the field at a place; 0 where there is none
unfoldable pub word_at : List ℕ → ℕ → ℕ
word_at l i = get_or (words_of l) i 0

unfoldable pub long_at : List ℕ → ℕ → ℕ
long_at l i = get_or (longs_of l) i 0

unfoldable pub double_at : List ℕ → ℕ → Float
double_at l i = of_bits binary64 (long_at l i)

-- the byte at a place; 0 where there is none
unfoldable pub byte_at : List ℕ → ℕ → ℕ
byte_at l i = get_or l i 0

-- every one of the bytes from `from` up to, not including, `to` is 0, as far as there are such
unfoldable pub zero_bytes : (from to : ℕ) → List ℕ → Bool
zero_bytes from to l = every (λ b. eqb b 0) (drop from (take to l))

-- each number is a byte, as those of every file are
unfoldable pub all_bytes : List ℕ → Bool
all_bytes l = every (λ b. ltb b 256) l

-- ---- writing

-- the w lowest bytes of a number, the lowest first
unfoldable pub bytes_of : (w : ℕ) → ℕ → List ℕ
bytes_of zero n = []
bytes_of (suc w) n = n % 256 ∷ bytes_of w (n / 256)

unfoldable pub double_bytes : Float → List ℕ
double_bytes x = bytes_of 8 (to_bits binary64 x)
