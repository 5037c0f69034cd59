-- `root::next_digits` meets its contract. Assumes nothing.
use mathlib.Core.Path.{◌∙◌}
use native.Mathlib.Numerals.{add-one}
use native.Mathlib.Omega.{arith}
use borrow.Author.Count.{below_more}
use Rattle.std.proofs.lemmas.List.{length-set, get_or-set_same, get_or-set_other}
use Rattle.root.proofs.Whole.{holds_next, ready}
use Rattle.root.proofs.next_digits.Goals as goal

pub loop-k-init : goal.loop-k-init
loop-k-init g c = record {
  long = omega arith;
  next = λ j h. absurd (omega arith);
  held = λ j z h. c.requires.2 j h;
}

pub next_digit-requires : goal.next_digit-requires
next_digit-requires g c = ready _ _ _ _ _ (omega (arith, c.requires.0 c.loop-k.k)) (omega arith) (c.loop-k.invariant.held c.loop-k.k (omega arith) (omega arith) _)

pub loop-k-preserved : goal.loop-k-preserved
loop-k-preserved g c = record {
  long = length-set _ _ _ ∙ c.loop-k.invariant.long;
  next = below_more _ _ (λ j h d. rw (get_or-set_other c.loop-k.s c.loop-k.k j _ d (omega arith)) (c.loop-k.invariant.next j h d))
      (λ d. rw (get_or-set_same c.loop-k.s c.loop-k.k _ d (omega arith), add-one) (holds_next _ _ _ _ _ _ _ _ (omega arith) (c.loop-k.invariant.held _ (omega arith) (omega arith) _) c.next_digit.ensures));
  held = λ j h l d. rw (get_or-set_other c.loop-k.s c.loop-k.k j _ d (omega arith)) (c.loop-k.invariant.held j (omega arith) l d);
}

pub returns : goal.returns
returns g c = λ j h. c.loop-k.invariant.next j (omega arith)
