-- A refusal order (document 01, 'Refusals'): tests in turn, each with the number that it answers. The first that a call fails turns it down.
use Rattle.std.specs.Prelude.{Bool, cond, List, [], ◌∷◌, ℕ, zero, suc, ltb}
use Rattle.rule.specs.Refusal.{ROOM}
use Rattle.rule.specs.Answer.{Answer, refused, gives}
use Rattle.rule.specs.Lists.{every}

-- whether the call fails the test, and the number that says so
pub record Test : Type 0 where
  pub fails : Bool
  pub number : ℕ

-- No test of a list has 0 for its number, which would say that none failed.
abbrev pub all_numbered : List Test → Bool
all_numbered ts = every (λ t. ltb 0 t.number) ts

-- the number of the first test that fails; 0 where none does
unfoldable pub first_failed : List Test → ℕ
first_failed [] = 0
first_failed (t ∷ ts) = cond t.fails t.number (first_failed ts)

-- What a call answers by that number: the refusal, or what it gives.
unfoldable pub decided : {A : Type 0} → ℕ → A → Answer A
decided zero a = gives a
decided (suc k) a = refused (suc k)

-- What is there after the call: `done` where no test failed, else `before`.
unfoldable pub if_passed : {A : Type 0} → ℕ → A → A → A
if_passed zero done before = done
if_passed (suc k) done before = before

-- 9: a lent list has fewer places than are needed
unfoldable pub room : ℕ → ℕ → Test
room needed places = record { fails = ltb places needed; number = ROOM }
