-- `estimator::doubles::doubled` meets its contract. Assumes nothing.
use Rattle.std.proofs.Common.{◌≡◌, ap, ◌∙◌, sym, subst, ℕ, length, ◌/◌, ◌-◌, ◌≤◌}
use Rattle.std.specs.Prelude.{min, take}
use native.Mathlib.Omega.{arith}
use Rattle.std.specs.List.{range_with_len}
use Rattle.std.specs.List.Sorted.{IsPermutation, IsNonDecreasingBy}
use Rattle.estimator.specs.Ranks.{Keyed, rank_of}
use Rattle.estimator.proofs.Tests.{at_most}
use Rattle.estimator.proofs.Columns.{no_columns}
use Rattle.estimator.proofs.Doubled.{seen, all_below}
use Rattle.estimator.proofs.doubles.doubled.Goals as goal

-- there are at most 2,000 places
all_places : (n m : ℕ) → n ≡ m → m ≤ 2000 → min 2000 n ≡ n
all_places n m same most = omega (arith, same, most)

pub fill_columns-requires-clause-small : goal.fill_columns-requires-clause-small
fill_columns-requires-clause-small g c = no_columns 4800

pub neighbours_clash-requires : goal.neighbours_clash-requires
neighbours_clash-requires g c =
    let n = length c.args.marks.now / c.WIDTH.result in
    let same = ap (λ (w : ℕ). length c.args.marks.now / w) c.WIDTH.ensures in
    let all = all_places n (length c.args.marks.now / g.E.Estimator.WIDTH) same (at_most g.E.Estimator.WIDTH g.met.E.Estimator.wide (length c.args.marks.now) c.requires.short) in
    all_below n (length c.args.marks.now / g.E.Estimator.WIDTH) same (take n c.ascending-places.result) (subst (λ (k : ℕ). IsPermutation (range_with_len 0 k) (take k c.ascending-places.result)) all c.ascending-places.ensures.permutation)

pub returns : goal.returns
returns g c =
    let w = g.E.Estimator.WIDTH in
    let n = length c.args.marks.now / c.WIDTH.result in
    let same = ap (λ (w : ℕ). length c.args.marks.now / w) c.WIDTH.ensures in
    let all = all_places n (length c.args.marks.now / w) same (at_most w g.met.E.Estimator.wide (length c.args.marks.now) c.requires.short) in
    c.neighbours_clash.ensures
    ∙ seen g.E.Estimator.family w g.met.E.Estimator.wide g.met.E.Estimator.width_is g.met.E.Estimator.placed c.args.marks.now c.requires.in_range c.type_inv.marks n same c.fill_columns.new.columns c.fill_columns.ensures.small
    (subst (λ (k : ℕ). Keyed w (w - 2) k c.args.marks.now c.fill_columns.new.columns) (sym same) c.fill_columns.ensures.keyed)
    (take n c.ascending-places.result)
    (subst (λ (k : ℕ). IsPermutation (range_with_len 0 k) (take k c.ascending-places.result)) all c.ascending-places.ensures.permutation)
    (subst (λ (k : ℕ). IsNonDecreasingBy (rank_of (w - 2) n c.fill_columns.new.columns) (take k c.ascending-places.result)) all c.ascending-places.ensures.ascending)
    (g.met.E.Estimator.counts c.args.marks.now ∙ sym same)
