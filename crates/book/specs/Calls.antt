-- A list of trial calls, each handed the state that the last gave back, for any kind of state, call and answer. And one call on a state that anyone may
-- have made.
use Rattle.std.specs.Prelude.{◌≡◌, Bool, true, false, cond, ◌||◌, List, [], ◌∷◌, ℕ, leb, ltb}
use Rattle.rule.specs.Refusal.{ENDED}
use Rattle.book.specs.Score.{Options, Judged}
use Rattle.book.specs.Book.{Book, Outcome, is_refused, is_empty, is_few, is_held, is_won, Entered, entered, ended_at}

-- ---- one call, on any state

-- 'A hand-made state is answered too: ended if trials read ≥ bound or ≥ 100,000, or if another of its counts exceeds trials read.'
unfoldable pub closed_at : (read empties fews scores bound : ℕ) → Bool
closed_at read empties fews scores bound = ended_at read bound || (leb 100000 read || (ltb read empties || (ltb read fews || ltb read scores)))

unfoldable pub is_closed : {M : Type 0} → Book M → Bool
is_closed b = closed_at b.read b.empties b.fews b.scores b.bound

-- What a trial makes of what a state has of the book. The book itself has its own test of the end; that the two never differ after an opening is part of
-- what is proved.
unfoldable pub tried : {M : Type 0} → Options → Book M → Judged M → Entered M
tried o b j = cond (is_closed b) (record { book = b; outcome = is_refused ENDED }) (entered o b j)

-- ---- a list of calls

-- `Tried s c t a` says that the call c on the state s gives the state t and the answer a.
pub data Called {S C A : Type 0} (Tried : S → C → S → A → Type 0) : S → List C → List A → S → Type 0 where
  no_call : {s : S} → Called Tried s [] [] s
  then : {s t z : S} {c : C} {a : A} {cs : List C} {rest : List A} → Tried s c t a → Called Tried t cs rest z → Called Tried s (c ∷ cs) (a ∷ rest) z

unfoldable pub is_refusal : Outcome → Bool
is_refusal (is_refused k) = true
is_refusal is_empty = false
is_refusal (is_few count) = false
is_refusal (is_held count rms) = false
is_refusal (is_won count rms) = false

-- a refusal's number; 0 for the others
unfoldable pub number_in : Outcome → ℕ
number_in (is_refused k) = k
number_in is_empty = 0
number_in (is_few count) = 0
number_in (is_held count rms) = 0
number_in (is_won count rms) = 0

-- Every call that is not refused carries what it should; one that is may carry anything. The outcomes are the book's (`outcomes_of`): what a program
-- answered does not come into it.
pub data Carried {C : Type 0} (Good : C → Type 0) : List C → List Outcome → Type 0 where
  no_call : Carried Good [] []
  then : {c : C} {a : Outcome} {cs : List C} {rest : List Outcome} → (is_refusal a ≡ false → Good c) → Carried Good cs rest → Carried Good (c ∷ cs) (a ∷ rest)
