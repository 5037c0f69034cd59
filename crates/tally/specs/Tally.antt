-- Scores: how many answers of each kind agree, of how many.
use Rattle.std.specs.Prelude.{◌≡◌, Bool, false, cond, List, [], ◌∷◌, ◌++◌, length, ℕ, ◌+◌, ◌-◌, ◌≤◌, ltb, eqb, slice_index_or, slice_set, Option, Some, None, Result, MatchResult}
use Rattle.std.specs.Io.KnownBytes.{Consumes}
use Rattle.fields.specs.Fields.{long_at}
use Rattle.tally.specs.declared.Kind.{Kind}
use Rattle.tally.specs.declared.Kind.TheVariants.{First, Second, Third, Fourth}
use Rattle.tally.specs.declared.UnknownKind.{UnknownKind}
use Rattle.tally.specs.declared.Score.{Score}
use Rattle.tally.specs.declared.Scores.{Scores}

-- the kind of a record by its first word
abbrev pub kind_of : ℕ → Option Kind
kind_of word = cond (eqb word 1) (Some First) (cond (eqb word 2) (Some Second) (cond (eqb word 3) (Some Third) (cond (eqb word 4) (Some Fourth) None)))

abbrev pub Decodes : ℕ → Result Kind UnknownKind → Type 0
Decodes word r = MatchResult r (λ kind. kind_of word ≡ Some kind) (λ e. (kind_of word ≡ None) × (e.0 ≡ word))

-- one more, up to a number that no list reaches
unfoldable pub one_more : ℕ → ℕ
one_more n = cond (ltb n 1000000) (n + 1) n

unfoldable pub score_after : Score → Bool → Score
score_after s agrees = record { right = cond agrees (one_more s.right) s.right; all = one_more s.all }

abbrev pub no_score : Score
no_score = record { right = 0; all = 0 }

unfoldable pub no_scores : Scores
no_scores = record { kinds = no_score ∷ no_score ∷ no_score ∷ no_score ∷ []; unknown = no_score }

-- the place of a kind's score
abbrev pub place_of : Kind → ℕ
place_of First = 0
place_of Second = 1
place_of Third = 2
place_of Fourth = 3

unfoldable pub scores_after : Scores → Option Kind → Bool → Scores
scores_after t (Some kind) agrees = record { kinds = slice_set t.kinds (place_of kind) (score_after (slice_index_or t.kinds (place_of kind) no_score) agrees); unknown = t.unknown }
scores_after t None agrees = record { kinds = t.kinds; unknown = score_after t.unknown agrees }

-- ---- a list of records, replayed

-- the scores of bytes that are whole records of n bytes each
module _ (n : ℕ) (Answers : Kind → List ℕ → Bool → Type 0) where
  pub data Scored : List ℕ → Scores → Type 0 where
    none : Scored [] no_scores
    known : {bytes : List ℕ} (l : List ℕ) {t : Scores} {kind : Kind} {b : Bool} → Scored bytes t → length l ≡ n → kind_of (long_at l 0) ≡ Some kind → Answers kind l b → Scored (bytes ++ l) (scores_after t (Some kind) b)
    unknown : {bytes : List ℕ} (l : List ℕ) {t : Scores} → Scored bytes t → length l ≡ n → kind_of (long_at l 0) ≡ None → Scored (bytes ++ l) (scores_after t None false)

  -- of what a reader gave: the rest is no whole record, and nothing where records are of no bytes
  pub record Replayed (old new : Option (List ℕ)) (t : Scores) : Type 0 where
    pub bytes : List ℕ
    pub rest : List ℕ
    pub read : Consumes old new (bytes ++ rest)
    pub left : length rest ≤ n - 1
    pub scored : Scored bytes t
