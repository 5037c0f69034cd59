-- `line::on_one_line` meets its contract. Assumes nothing.
use Rattle.std.proofs.Common.{◌≡◌, ℕ, Bool, true, false, refl, rules, tests}
use Rattle.std.proofs.lemmas.Iterator.{YieldsList-from_range, first_from_Range}
use Rattle.std.proofs.lemmas.Iterator.Search.{all_from_yields_List}
use Rattle.sheet.specs.Marks.{point_at}
use Rattle.line.specs.Collinear.{apart, on_baseline}
use Rattle.line.proofs.Baseline.{First, line_few, line_none, line_tested}
use Rattle.line.proofs.on_one_line.Goals.{After-find}
use Rattle.line.proofs.on_one_line.Goals as goal

pub returns-then-n-lt3 : goal.returns-then-n-lt3
returns-then-n-lt3 c = line_few _ _ c.len-n.ensures c.if-n-lt3.true

first : (c : After-find) → First c.args.points.side c.args.points.marks.now c.len-n.result c.at-p0.result c.find.result
first c =
    let is : ℕ → Bool = λ i. apart c.at-p0.result (point_at c.args.points.side c.args.points.marks.now i) in
    first_from_Range _ _ _ _ (λ i. is i ≡ true) (λ i. is i ≡ false) c.find.ensures.ran (λ x q k. search (rules, tests)) (λ x q k. search (rules, tests))

pub returns-in_default : goal.returns-in_default
returns-in_default c = line_none _ _ c.len-n.ensures c.if-n-lt3.false c.at-p0.ensures (first (goal.at.returns-in_default c).After-find) c.in_default.is

pub returns : goal.returns
returns c =
    let test : ℕ → Bool = λ i. on_baseline c.at-p0.result c.at-p1.result (point_at c.args.points.side c.args.points.marks.now i) in
    line_tested _ _ c.len-n.ensures c.if-n-lt3.false c.at-p0.ensures (first (goal.at.returns c).After-find) c.in-Some.is c.at-p1.ensures
    (all_from_yields_List test _ _ _ c.all.ensures.ran (YieldsList-from_range _ _ _ refl refl) (λ x b q k. search (rules, tests)))
