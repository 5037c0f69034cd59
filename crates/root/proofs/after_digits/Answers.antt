-- `root::after_digits` meets its contract. Assumes nothing.
use mathlib.Core.Path.{◌≡◌, ◌∙◌}
use Prim.Native.Nat.{◌+◌, ◌*◌, ◌/◌}
use native.Mathlib.Omega.{arith}
use borrow.Author.Count.{below_more}
use Rattle.std.proofs.lemmas.List.{length-set, get_or-set_same, get_or-set_other}
use Rattle.root.proofs.Whole.{begun, carried}
use Rattle.root.proofs.after_digits.Goals as goal

pub loop-k-preserved : goal.loop-k-preserved
loop-k-preserved g c = record {
  long = length-set _ _ _ ∙ c.loop-k.invariant.long;
  begun = below_more _ _ (λ j h d. rw (get_or-set_other c.loop-k.s c.loop-k.k j _ d (omega arith)) (c.loop-k.invariant.begun j h d)) (λ d. rw (get_or-set_same c.loop-k.s c.loop-k.k _ d (omega arith)) (begun _ (c.requires.0 _)));
}

pub loop-turn-preserved : goal.loop-turn-preserved
loop-turn-preserved g c = rw (let e : 6 * (c.loop-turn.turn + 1) ≡ 6 * c.loop-turn.turn + 6 = omega arith in e) c.six_digits-s.ensures

pub loop-more-init : goal.loop-more-init
loop-more-init g c = rw (let e : c.args.count / 6 * 6 ≡ 6 * c.loop-turn.turn = omega arith in e) c.loop-turn.invariant

pub returns-clause-extracted : goal.returns-clause-extracted
returns-clause-extracted g c = λ k h d.
    let a = c.loop-more.invariant k h d in
    let e : c.loop-more.more ≡ c.args.count = omega arith in
    rw (← e, ← a.halved) (carried _ _ _ _ _ (omega (arith, c.requires.0 k)) (omega arith) a)
