-- Document 01, 'Winner' and 'Refusals': what the byte length of stops.bin says of the list for the opening.
use Rattle.std.specs.Prelude.{◌&&◌, cond, ℕ, ◌/◌, ◌%◌, eqb, leb}

-- the entries of a stop file, four bytes each and at most 2,001: else none, which the opening refuses as 8
abbrev pub entry_count : ℕ → ℕ
entry_count len = cond (eqb (len % 4) 0 && leb len 8004) (len / 4) 0
