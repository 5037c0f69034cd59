-- What a writer answers, for any format, by the first test of the numbers that fails and by the room. Assumes nothing.
use mathlib.Core.Path.{◌≡◌, refl, sym, ◌∙◌}
use mathlib.Core.Bool.{Bool, true, false, cond}
use mathlib.Core.List.{List, [], ◌∷◌, ◌++◌}
use Prim.Native.Nat.{ℕ, zero, suc, ◌≤◌}
use native.Mathlib.Omega.{arith}
use borrow.Author.Tests.{ltb-false}
use lib.Dec.{T, ltb}
use lib.ListN.{length}
use Rattle.rule.specs.Refusal.{ROOM}
use Rattle.rule.specs.Order.{Test, first_failed, room}
use Rattle.rule.proofs.Order.{numbered, all_passed, one_failed}
use Rattle.fields.specs.Packing.{size_of}
use Rattle.writer.specs.Format.{Format, writer_tests, writer_answer}

-- the number of the tests, then that of the room
abbrev pub answer_by : (k size places : ℕ) → ℕ
answer_by zero size places = cond (ltb places size) ROOM 0
answer_by (suc k) size places = suc k

-- ---- what the answer says of the two

pub accepted : (k size places : ℕ) → answer_by k size places ≡ 0 → (k ≡ 0) × (size ≤ places)
accepted zero size places e = (refl, go (ltb places size) refl e)
  where
    go : (b : Bool) → ltb places size ≡ b → cond b ROOM 0 ≡ 0 → size ≤ places
    go true h z = absurd (omega (arith, z))
    go false h z = ltb-false places size h
accepted (suc k) size places e = absurd (omega (arith, e))

pub by_number : (k size places : ℕ) {j : ℕ} → answer_by k size places ≡ j → (j ≡ 0 → ⊥) → (j ≡ ROOM → ⊥) → k ≡ j
by_number zero size places {j} e some other = go (ltb places size) e
  where
    go : (b : Bool) → cond b ROOM 0 ≡ j → 0 ≡ j
    go true z = absurd (other (sym z))
    go false z = z
by_number (suc k) size places e some other = e

pub turned_down : (k size places : ℕ) → (k ≡ 0 → ⊥) → answer_by k size places ≡ k
turned_down zero size places some = absurd (some refl)
turned_down (suc k) size places some = refl

module _ {N A : Type 0} (f : Format N A) (n : N) (entry : List ℕ) where
  -- of the numbers
  abbrev tests : List Test
  tests = f.asks n ++ f.tests (f.fields n)

  abbrev size : ℕ
  size = size_of f.layout

  module _ (above : T (numbered tests)) where
    of_tests : (k : ℕ) → first_failed tests ≡ k → writer_answer f n entry ≡ answer_by k size (length entry)
    unfolding writer_answer writer_tests first_failed room
    of_tests zero e = sym (all_passed tests (room size (length entry) ∷ []) above e)
    of_tests (suc k) e = sym (one_failed tests (room size (length entry) ∷ []) (λ z. absurd (let y = sym e ∙ z in omega (arith, y)))) ∙ e

    pub answer_is : writer_answer f n entry ≡ answer_by (first_failed tests) size (length entry)
    answer_is = of_tests (first_failed tests) refl
