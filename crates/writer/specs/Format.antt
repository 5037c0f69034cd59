-- Document 02, order 1: a writer of records, for any kind of record. Its format is what its reader and its writer share. From it follow what the reader takes,
-- what the writer answers and leaves in the lent buffer, and the three things that are promised of the two.
use Rattle.std.specs.Prelude.{◌≡◌, not, List, [], ◌∷◌, ◌++◌, ℕ, ◌≤◌, T, eqb, length, take, drop}
use Rattle.rule.specs.Refusal.{ROOM}
use Rattle.rule.specs.Answer.{Answer, refused, gives}
use Rattle.rule.specs.Order.{Test, first_failed, decided, if_passed, room}
use Rattle.rule.specs.Lists.{filled}
use Rattle.fields.specs.Fields.{all_bytes}
use Rattle.fields.specs.Packing.{size_of, unpacked, packed}

-- A is what the reader gives, N the plain numbers that the writer is handed.
pub record Format (N A : Type 0) : Type 1 where
  pub layout : List ℕ
  -- the number by which a record of another length is refused
  pub other_length : ℕ
  -- what is asked of the numbers in the fields, in order, and what they stand for
  pub tests : (fields : List ℕ) → List Test
  pub value : (fields : List ℕ) → A
  -- the plain numbers of a value, and plain numbers as they stand in the fields
  pub numbers : A → N
  pub fields : N → List ℕ
  -- what a writer has to ask besides, for the numbers to have fields at all
  pub asks : N → List Test
  -- what a caller can hand over for a record: each number of its type, and as many as the record has
  pub Representable : N → Type 0

-- ---- the reader

unfoldable pub sized : {N A : Type 0} → Format N A → List ℕ → Test
sized f l = record { fails = not (eqb (length l) (size_of f.layout)); number = f.other_length }

unfoldable pub reads : {N A : Type 0} → Format N A → List ℕ → Answer A
reads f l =
    let fields = unpacked f.layout l in
    decided (first_failed (sized f l ∷ f.tests fields)) (f.value fields)

-- the same, as plain numbers
unfoldable pub as_numbers : {N A : Type 0} → (A → N) → Answer A → Answer N
as_numbers numbers (refused k) = refused k
as_numbers numbers (gives v) = gives (numbers v)

unfoldable pub numbers_read : {N A : Type 0} → Format N A → List ℕ → Answer N
numbers_read f l = as_numbers f.numbers (reads f l)

-- ---- the writer

-- the record that packing gives, without any test
unfoldable pub record_of : {N A : Type 0} → Format N A → N → List ℕ
record_of f n = packed f.layout (f.fields n)

-- 9 comes after every check on the numbers
unfoldable pub writer_tests : {N A : Type 0} → Format N A → N → (places : ℕ) → List Test
writer_tests f n places = f.asks n ++ f.tests (f.fields n) ++ (room (size_of f.layout) places ∷ [])

-- 0, or the refusal's number
unfoldable pub writer_answer : {N A : Type 0} → Format N A → N → (entry : List ℕ) → ℕ
writer_answer f n entry = first_failed (writer_tests f n (length entry))

-- The record from the front, and the bytes behind it stay; refused, all do.
unfoldable pub written : {N A : Type 0} → Format N A → N → (entry : List ℕ) → List ℕ
written f n entry = if_passed (writer_answer f n entry) (filled (record_of f n) entry) entry

-- ---- what is promised

pub record Faithful {N A : Type 0} (f : Format N A) : Type 0 where
  -- 'What it writes reads back to the same numbers': all that are accepted, in every buffer with room, from its first bytes.
  pub reads_back : (n : N) (entry : List ℕ) → f.Representable n → writer_answer f n entry ≡ 0 → numbers_read f (take (size_of f.layout) (written f n entry)) ≡ gives n
  -- 'every accepted record is what the writer makes of its numbers': handed what was read, it accepts and writes exactly those bytes.
  pub made : (l : List ℕ) (n : N) (entry : List ℕ) → T (all_bytes l) → numbers_read f l ≡ gives n → size_of f.layout ≤ length entry
      → (writer_answer f n entry ≡ 0) × (written f n entry ≡ l ++ drop (length l) entry)
  -- 'It turns down what the reader would': with k where the reader refuses with k what packing gives; 9 is the writer's alone.
  pub turns_down : (n : N) (entry : List ℕ) (k : ℕ) → f.Representable n → (k ≡ 0 → ⊥) → (k ≡ ROOM → ⊥)
      → (writer_answer f n entry ≡ k → numbers_read f (record_of f n) ≡ refused k) × (numbers_read f (record_of f n) ≡ refused k → writer_answer f n entry ≡ k)
