-- What an exported call answers, and what it leaves in the list that it is lent, by how many words a state has.
use Rattle.std.specs.Prelude.{Bool, cond, ◌||◌, List, ℕ, ◌+◌, ltb, length, Float}
use Rattle.rule.specs.Answer.{Answer, refused, gives}
use Rattle.rule.specs.Lists.{filled}
use Rattle.records.specs.declared.options.RansacOptions.{RansacOptions}

-- the answer of a call that has too few words to read or too few places for those that it writes
abbrev pub NO_WORDS : ℕ
NO_WORDS = 0xffff_ffff

abbrev pub options_of : (thresh confidence : Float) (max_iters min_inliers : ℕ) (refit : Bool) (ratio : Float) → RansacOptions
options_of thresh confidence max_iters min_inliers refit ratio =
    record { thresh = thresh; confidence = confidence; max_iters = max_iters; min_inliers = min_inliers; refit = refit; ratio = ratio }

-- ---- a call that only writes n words

abbrev pub put_number : (n : ℕ) → (entry : List ℕ) → ℕ
put_number n entry = cond (ltb (length entry) n) NO_WORDS 0

-- ---- the opening

abbrev pub refusal_of : {A : Type 0} → Answer A → ℕ
refusal_of (refused k) = k
refusal_of (gives a) = 0

abbrev pub opened_number : {A : Type 0} → (n : ℕ) → Answer A → (entry : List ℕ) → ℕ
opened_number n a entry = cond (ltb (length entry) n) NO_WORDS (refusal_of a)

-- as it was where the opening is refused, or there is no room
abbrev pub opened_after : {A : Type 0} → (words : A → List ℕ) → Answer A → (entry : List ℕ) → List ℕ
opened_after words (refused k) entry = entry
opened_after words (gives a) entry = filled (words a) entry

-- ---- a trial of a state, which leaves four words more

abbrev pub tried_number : (n : ℕ) → (state entry : List ℕ) → ℕ
tried_number n state entry = cond (ltb (length state) n || ltb (length entry) (n + 4)) NO_WORDS 0

abbrev pub tried_after : (n : ℕ) → (state words entry : List ℕ) → List ℕ
tried_after n state words entry = cond (ltb (length state) n) entry (filled words entry)

-- ---- the winner's indices: how many; 2^32 and the refusal's number; 2^33 where there is no state

abbrev pub NO_STATE : ℕ
NO_STATE = 0x2_0000_0000

abbrev pub indexed_number : Answer ℕ → ℕ
indexed_number (refused k) = 0x1_0000_0000 + k
indexed_number (gives n) = n

abbrev pub listed_number : (n : ℕ) → (state : List ℕ) → Answer ℕ → ℕ
listed_number n state a = cond (ltb (length state) n) NO_STATE (indexed_number a)

abbrev pub listed_after : (n : ℕ) → (state indices entry : List ℕ) → List ℕ
listed_after n state indices entry = cond (ltb (length state) n) entry indices

-- ---- the number of marks that are beyond, for a caller that may do without: 0 where they aren't counted

abbrev pub if_counted : (counting : Bool) → ℕ → ℕ
if_counted counting k = cond counting k 0
