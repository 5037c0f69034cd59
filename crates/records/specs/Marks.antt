-- Document 01, 'Marks', and document 02, order 5: the file that the camera writes, as bytes. 8 bytes a number, and as many numbers a mark as the family's
-- marks have: 32 bytes a mark of a sheet, 40 of a form.
use Rattle.std.specs.Prelude.{not, ◌||◌, List, [], ◌∷◌, ℕ, ◌*◌, ◌%◌, ltb, eqb, length, Float}
use Rattle.rule.specs.Refusal.{SHAPE}
use Rattle.rule.specs.Answer.{Answer}
use Rattle.rule.specs.Order.{Test, first_failed, decided, if_passed}
use Rattle.rule.specs.Lists.{parts_of, for_each, filled}
use Rattle.fields.specs.Fields.{doubles_of}

-- of marks of w numbers each
module _ (w : ℕ) where
  -- 5: not a whole number of marks, or over 64,000 bytes, which are 8,000 numbers
  unfoldable pub mark_bytes : List ℕ → Test
  mark_bytes l = record { fails = not (eqb (length l % (8 * w)) 0) || ltb 64000 (length l); number = SHAPE }

  -- the numbers of each whole mark, from its own part of the bytes
  unfoldable pub numbers_in : List ℕ → List Float
  numbers_in l = for_each doubles_of (parts_of (8 * w) l)

  -- What the reader answers: how many numbers, or 5.
  abbrev pub marks_answer : List ℕ → Answer ℕ
  marks_answer l = decided (first_failed (mark_bytes l ∷ [])) (length (numbers_in l))

  -- What is in the list that was lent to it: the numbers at its front; where the file is refused, what was there before.
  abbrev pub numbers_after : List ℕ → List Float → List Float
  numbers_after l entry = if_passed (first_failed (mark_bytes l ∷ [])) (filled (numbers_in l) entry) entry
