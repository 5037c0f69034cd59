-- Document 01, 'Rank', `dlt_rank_ok`: whether the descending singular values of a design matrix of `cols` columns leave a null space of `null`
-- dimensions and no more.
use Rattle.std.specs.Prelude.{Bool, not, ◌&&◌, List, ℕ, ◌-◌, ltb, length, get_or, Float}
use Rattle.std.specs.Float.{nan}
use Rattle.std.specs.Float.Ieee.{le}
use Rattle.rule.specs.Arith.{◌⊘◌}
use Rattle.numbers.specs.Constants.{epsilon}

-- no for an empty list, a first value at most 2^-52, or no element at cols - null - 1; else element / first ≥ tolerance.
-- A NaN compares as false: as the first value it is not at most 2^-52, and the quotient is then a NaN and not at least the tolerance.
unfoldable pub rank_ok : List Float → ℕ → ℕ → Float → Bool
rank_ok values cols null tolerance =
    let first = get_or values 0 nan in
    let at = cols - null - 1 in
    ltb 0 (length values)
    && (not (le first epsilon)
    && (ltb null cols
    && (ltb at (length values)
    && le tolerance (get_or values at nan ⊘ first))))
