-- The readers that the formats speak of are the entries' own: so what is promised of a record that is written is promised of the entry that it is handed to.
use Rattle.std.specs.Prelude.{◌≡◌, List, ◌∷◌, ◌++◌, ℕ, ◌≤◌, ◌%◌, T, true, length, drop, Float}
use Rattle.std.specs.Float.{binary64}
use Rattle.std.specs.Float.Ieee.{fits}
use Rattle.rule.specs.Answer.{refused, gives}
use Rattle.rule.specs.Order.{first_failed, decided}
use Rattle.rule.specs.Lists.{every, for_each}
use Rattle.numbers.specs.Constants.{farthest}
use Rattle.estimator.specs.Family.{Family}
use Rattle.estimator.specs.Marks.{all_within, marks_tests}
use Rattle.sheet.specs.Marks.{marks_of, mark_numbers, mark_at}
use Rattle.sheet.specs.Sheets.{sheet}
use Rattle.sheet.specs.declared.marks.Mark.{Mark}
use Rattle.fields.specs.Fields.{all_bytes}
use Rattle.records.specs.Options.{options_record, options_of, options_tests, completed}
use Rattle.records.specs.Trial.{trial_answer}
use Rattle.records.specs.Marks.{numbers_in}
use Rattle.records.specs.declared.options.RansacOptions.{RansacOptions}
use Rattle.pick.specs.Opening.{opening_answer, record_answer}
use Rattle.writer.specs.Format.{reads, record_of, writer_answer, written}
use Rattle.writer.specs.Formats.{options_numbers, options_format, mark_format, trial_format}

-- ---- options: the opening of a family's run by a record, whatever the marks and the stops are

pub record OptionsReader {E M K : Type 0} (f : Family E M K) : Type 0 where
  -- A record that the format's reader refuses, the opening refuses with the same number: any but one of 32 bytes, which the format of 40 doesn't have.
  pub refuses : (l : List ℕ) (e : E) (marks : List Float) (stops : List ℕ) → (length l ≡ 32 → ⊥) → (k : ℕ) → reads options_format l ≡ refused k
      → record_answer f e l marks stops ≡ refused k
  -- With one that is read it is the opening with the options that were read.
  pub opens : (l : List ℕ) (e : E) (marks : List Float) (stops : List ℕ) (o : RansacOptions) → reads options_format l ≡ gives o
      → record_answer f e l marks stops ≡ opening_answer f e o marks stops
  -- One of 32 bytes it takes for the one of 40 that has ratio 1 behind them.
  pub completes : (l : List ℕ) → length l ≡ 32 → (e : E) (marks : List Float) (stops : List ℕ) → record_answer f e l marks stops ≡ record_answer f e (completed l) marks stops

-- And that one is what the writer makes of the numbers of the 32 bytes, where these are accepted and there is room.
abbrev pub ShortMade : Type 0
ShortMade =
    (l : List ℕ) → length l ≡ 32 → T (all_bytes l) → first_failed (options_record l ∷ options_tests (options_of l)) ≡ 0 → (entry : List ℕ) → 40 ≤ length entry
    → (writer_answer options_format (options_numbers (options_of l)) entry ≡ 0) × (written options_format (options_numbers (options_of l)) entry ≡ completed l ++ drop 40 entry)

-- ---- trials: `read_trial` of a sheet reads any bytes as the format does

abbrev pub TrialReader : Type 0
TrialReader = (l : List ℕ) → reads trial_format l ≡ trial_answer sheet l

-- ---- marks: a file of them is records one after the other

pub record MarkReader : Type 0 where
  -- A file of one record is tested and read as the format does.
  pub one : (l : List ℕ) → length l ≡ 32 → reads mark_format l ≡ decided (first_failed (marks_tests sheet (numbers_in 4 l))) (mark_at (numbers_in 4 l) 0)
  -- Marks that are written one after the other are the marks of the file.
  pub back : (ms : List Mark) → T (every (λ m. every (fits binary64) (mark_numbers m)) ms) → marks_of (numbers_in 4 (for_each (record_of mark_format) ms)) ≡ ms
  -- A file whose numbers are accepted is what is written for its marks.
  pub made : (l : List ℕ) → T (all_bytes l) → length l % 32 ≡ 0 → all_within farthest (numbers_in 4 l) ≡ true
      → for_each (record_of mark_format) (marks_of (numbers_in 4 l)) ≡ l
