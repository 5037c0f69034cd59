-- What is promised of a reader and a writer with one format, from what their format keeps: fields that hold the numbers, and numbers that come back from
-- the fields. Assumes nothing.
use mathlib.Core.Path.{◌≡◌, refl, sym, ap, ◌∙◌}
use mathlib.Core.List.{List, ◌∷◌, ◌++◌}
use Prim.Native.Nat.{ℕ, zero, suc, ◌≤◌}
use native.Mathlib.Omega.{arith}
use borrow.Author.Tests.{not-false, eq-eqb, le-ltb}
use lib.Dec.{T, ltb, eqb, eqb→eq}
use lib.ListN.{length, take, drop}
use Rattle.rule.specs.Refusal.{ROOM}
use Rattle.rule.specs.Answer.{refused, gives}
use Rattle.rule.specs.Order.{first_failed, decided, if_passed}
use Rattle.rule.specs.Lists.{filled}
use Rattle.rule.proofs.Tests.{is_test}
use Rattle.rule.proofs.Order.{numbered, all_passed, numbered_append, first_passed, decided-none, decided_some}
use Rattle.rule.proofs.Lists.{filled_is, filled_front}
use Rattle.fields.specs.Fields.{all_bytes}
use Rattle.fields.specs.Packing.{size_of, unpacked, packed}
use Rattle.fields.proofs.Packing.{Fit, packed_size, unpacked-packed, unpacked-fit, packed-unpacked}
use Rattle.writer.specs.Format.{Format, sized, reads, as_numbers, numbers_read, record_of, writer_answer, written, Faithful}
use Rattle.writer.proofs.Order.{answer_by, accepted, by_number, turned_down, answer_is}

-- what a format keeps
pub record Laws {N A : Type 0} (f : Format N A) : Type 0 where
  pub above_0 : T (ltb 0 f.other_length)
  pub asks_above_0 : (n : N) → T (numbered (f.asks n))
  pub tests_above_0 : (fields : List ℕ) → T (numbered (f.tests fields))
  pub fit : (n : N) → f.Representable n → Fit f.layout (f.fields n)
  pub asked : (n : N) → f.Representable n → first_failed (f.asks n) ≡ 0
  -- accepted numbers come back from their fields, and fields from their numbers
  pub back : (n : N) → f.Representable n → first_failed (f.tests (f.fields n)) ≡ 0 → f.numbers (f.value (f.fields n)) ≡ n
  pub again : (fields : List ℕ) → Fit f.layout fields → first_failed (f.tests fields) ≡ 0
      → (f.fields (f.numbers (f.value fields)) ≡ fields) × (first_failed (f.asks (f.numbers (f.value fields))) ≡ 0)

numbers-given : {N A : Type 0} (numbers : A → N) (k : ℕ) (a : A) {n : N} → as_numbers numbers (decided k a) ≡ gives n → (k ≡ 0) × (numbers a ≡ n)
unfolding as_numbers decided
numbers-given numbers zero a h = (refl, cc)
numbers-given numbers (suc k) a h = cc

numbers-refused : {N A : Type 0} (numbers : A → N) (k : ℕ) (a : A) {j : ℕ} → as_numbers numbers (decided k a) ≡ refused j → (k ≡ j) × (k ≡ 0 → ⊥)
unfolding as_numbers decided
numbers-refused numbers zero a h = cc
numbers-refused numbers (suc k) a h = (cc, λ e. absurd (omega (arith, e)))

module _ {N A : Type 0} (f : Format N A) (laws : Laws f) where
  abbrev size : ℕ
  size = size_of f.layout

  -- ---- the record that packing gives, and its reader

  module _ (n : N) (held : f.Representable n) where
    record_size : length (record_of f n) ≡ size
    unfolding record_of
    record_size = packed_size (laws.fit n held)

    record_read : reads f (record_of f n) ≡ decided (first_failed (f.tests (f.fields n))) (f.value (f.fields n))
    unfolding reads sized first_failed record_of
    record_read = rw (packed_size (laws.fit n held), eq-eqb size size refl, unpacked-packed (laws.fit n held))

    -- the writer's answer is decided by the reader's tests
    same_tests : first_failed (f.tests (f.fields n)) ≡ first_failed (f.asks n ++ f.tests (f.fields n))
    same_tests = all_passed (f.asks n) (f.tests (f.fields n)) (laws.asks_above_0 n) (laws.asked n held)

  above : (n : N) → T (numbered (f.asks n ++ f.tests (f.fields n)))
  above n = numbered_append (f.asks n) (f.tests (f.fields n)) (laws.asks_above_0 n) (laws.tests_above_0 (f.fields n))

  -- ---- the three

  numbers_of : (n : N) → f.Representable n → first_failed (f.tests (f.fields n)) ≡ 0 → numbers_read f (record_of f n) ≡ gives n
  unfolding numbers_read as_numbers
  numbers_of n held e =
      ap (as_numbers f.numbers) (record_read n held ∙ sym (decided-none (f.value (f.fields n)) (sym e)))
      ∙ ap gives (laws.back n held e)

  -- where it is accepted, no test of the numbers failed, there is room, and the record is left
  taken : (n : N) (entry : List ℕ) → writer_answer f n entry ≡ 0 → (first_failed (f.asks n ++ f.tests (f.fields n)) ≡ 0) × (size ≤ length entry)
  taken n entry e = accepted (first_failed (f.asks n ++ f.tests (f.fields n))) size (length entry) (sym (answer_is f n entry (above n)) ∙ e)

  wrote : (n : N) (entry : List ℕ) → first_failed (f.asks n ++ f.tests (f.fields n)) ≡ 0 → size ≤ length entry
      → (writer_answer f n entry ≡ 0) × (written f n entry ≡ filled (record_of f n) entry)
  unfolding written if_passed
  wrote n entry passed fits =
      let none : writer_answer f n entry ≡ 0 = answer_is f n entry (above n) ∙ rw (passed, le-ltb (length entry) size fits) in
      (none, ap (λ k. if_passed k (filled (record_of f n) entry) entry) none)

  back_read : (n : N) (entry : List ℕ) → f.Representable n → writer_answer f n entry ≡ 0 → numbers_read f (take size (written f n entry)) ≡ gives n
  back_read n entry held e =
      let t = taken n entry e in
      let first : take size (written f n entry) ≡ record_of f n =
      ap (take size) (wrote n entry t.0 t.1).1
      ∙ ap (λ k. take k (filled (record_of f n) entry)) (sym (record_size n held))
      ∙ filled_front (record_of f n) entry (rw (record_size n held) t.1)
      in
      ap (numbers_read f) first ∙ numbers_of n held (same_tests n held ∙ t.0)

  made_again : (l : List ℕ) (n : N) (entry : List ℕ) → T (all_bytes l) → numbers_read f l ≡ gives n → size ≤ length entry
      → (writer_answer f n entry ≡ 0) × (written f n entry ≡ l ++ drop (length l) entry)
  unfolding numbers_read reads sized record_of
  made_again l n entry bytes e fits =
      let fields = unpacked f.layout l in
      let d = numbers-given f.numbers (first_failed (sized f l ∷ f.tests fields)) (f.value fields) e in
      let p = first_passed (sized f l) (f.tests fields) laws.above_0 d.0 in
      let long : length l ≡ size = eqb→eq (length l) size (is_test (eqb (length l) size) (not-false (eqb (length l) size) p.0)) in
      let a = laws.again fields (unpacked-fit f.layout l long bytes) p.1 in
      let here : f.fields n ≡ fields = ap f.fields (sym d.1) ∙ a.0 in
      let asked : first_failed (f.asks n) ≡ 0 = ap (λ m. first_failed (f.asks m)) (sym d.1) ∙ a.1 in
      let passed : first_failed (f.asks n ++ f.tests (f.fields n)) ≡ 0 =
      sym (all_passed (f.asks n) (f.tests (f.fields n)) (laws.asks_above_0 n) asked) ∙ ap (λ fs. first_failed (f.tests fs)) here ∙ p.1
      in
      let packs : record_of f n ≡ l = ap (packed f.layout) here ∙ packed-unpacked f.layout l long bytes in
      let w = wrote n entry passed fits in
      (w.0, w.1 ∙ ap (λ bs. filled bs entry) packs ∙ filled_is l entry (rw long fits))

  module _ (n : N) (entry : List ℕ) (k : ℕ) (held : f.Representable n) (some : k ≡ 0 → ⊥) where
    reader_too : (k ≡ ROOM → ⊥) → writer_answer f n entry ≡ k → numbers_read f (record_of f n) ≡ refused k
    unfolding numbers_read as_numbers
    reader_too not-room e =
        let by = by_number (first_failed (f.asks n ++ f.tests (f.fields n))) size (length entry) (sym (answer_is f n entry (above n)) ∙ e) some not-room in
        let failed : first_failed (f.tests (f.fields n)) ≡ k = same_tests n held ∙ by in
        ap (as_numbers f.numbers) (record_read n held ∙ ap (λ j. decided j (f.value (f.fields n))) failed ∙ sym (decided_some k (f.value (f.fields n)) some))

    writer_too : numbers_read f (record_of f n) ≡ refused k → writer_answer f n entry ≡ k
    unfolding numbers_read
    writer_too e =
        let d = numbers-refused f.numbers (first_failed (f.tests (f.fields n))) (f.value (f.fields n)) (ap (as_numbers f.numbers) (sym (record_read n held)) ∙ e) in
        answer_is f n entry (above n) ∙ ap (λ j. answer_by j size (length entry)) (sym (same_tests n held) ∙ d.0) ∙ turned_down k size (length entry) some

  pub faithful : Faithful f
  faithful =
      record {
        reads_back = back_read;
        made = made_again;
        turns_down = λ n entry k held some not-room. (reader_too n entry k held some not-room, writer_too n entry k held some);
      }
