-- A call that is decided by the first test it fails, told as plain numbers: by its number, and by a value that is another where it is refused. Assumes nothing.
use mathlib.Core.Path.{◌≡◌, sym}
use Prim.Native.Nat.{ℕ}
use Rattle.std.specs.Prelude.{Result, Ok, Err}
use Rattle.rule.specs.declared.Refusal.{Refusal}
use Rattle.rule.specs.Refusal.{number_of}
use Rattle.rule.specs.Answer.{refused, answered, refusal_in}
use Rattle.rule.specs.Order.{decided, if_passed}
use Rattle.rule.proofs.Order.{decided-gives, decided-refused, kept}
use Rattle.rule.proofs.Views.{number_above_0}

pub number_decided : {A : Type 0} (r : Result A Refusal) (k : ℕ) (a : A) → answered r ≡ decided k a → refusal_in r ≡ k
number_decided (Ok b) k a h = sym (decided-gives k h).0
number_decided (Err e) k a h = (decided-refused k a h).0

module _ {A B : Type 0} (k : ℕ) (a : A) (value : A → B) (other : B) where
  pub value_refused : (e : Refusal) → refused (number_of e) ≡ decided k a → other ≡ if_passed k (value a) other
  value_refused e h = let g = (decided-refused k a h).0 in rw (← g) (kept (number_of e) (value a) other (number_above_0 e))
