-- What a call answers: a refusal's number, or what it gives. A contract says of the code's `Result` which of document 01's outcomes the call has, and with
-- which values.
use Rattle.std.specs.Prelude.{◌≡◌, ℕ, Result, Ok, Err}
use Rattle.rule.specs.declared.Refusal.{Refusal}
use Rattle.rule.specs.Refusal.{number_of}

pub data Answer (A : Type 0) : Type 0 where
  refused : ℕ → Answer A
  gives : A → Answer A

-- what each case of a `Result` stands for, by what its value stands for
abbrev pub told : {A B : Type 0} → (view : A → B) → Result A Refusal → Answer B
told view (Ok a) = gives (view a)
told view (Err e) = refused (number_of e)

-- where the value stands for itself
abbrev pub answered : {A : Type 0} → Result A Refusal → Answer A
answered (Ok a) = gives a
answered (Err e) = refused (number_of e)

-- the number by which a call is refused, 0 where it isn't
abbrev pub refusal_in : {A : Type 0} → Result A Refusal → ℕ
refusal_in (Ok a) = 0
refusal_in (Err e) = number_of e

-- Answers that stand for the same are the same: so a contract by that view leaves one answer.
abbrev pub OneAnswer : {A B : Type 0} → (view : A → B) → Type 0
OneAnswer {A} view = (r s : Result A Refusal) → told view r ≡ told view s → r ≡ s

-- where the value stands for itself
abbrev pub OneItself : (A : Type 0) → Type 0
OneItself A = (r s : Result A Refusal) → answered r ≡ answered s → r ≡ s
