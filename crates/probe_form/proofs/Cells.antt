-- The entry at a place of the matrix that normalising answers, or of zeros where it is refused. Assumes nothing.
use mathlib.Core.Path.{◌≡◌, refl, sym, ◌∙◌}
use mathlib.Core.List.{List, []}
use Prim.Native.Nat.{ℕ, ◌≤◌, ◌<◌}
use native.Mathlib.Omega.{arith}
use lib.Ieee.{Float, nan}
use Rattle.std.proofs.lemmas.List.{get_or-replicate}
use Rattle.rule.specs.declared.Refusal.{Refusal}
use Rattle.rule.specs.Refusal.{number_of}
use Rattle.rule.specs.Answer.{refused, gives}
use Rattle.rule.specs.Lists.{for_each}
use Rattle.rule.specs.Order.{first_failed, if_passed}
use Rattle.numbers.specs.Constants.{zero'}
use Rattle.flat.proofs.Entries.{in_rows, past, given, refused_so}
use Rattle.form.specs.Marks.{points}
use Rattle.linalg_3d.specs.Normalize.{similarity_of, matrix_of, normalize_tests, normalize_answer}
use Rattle.linalg_3d.specs.declared.Row.{Row}
use Rattle.linalg_3d.specs.declared.Normalized.{Normalized}
use Rattle.probe_form.specs.Plain.{no_matrix, cell_of}

abbrev cells : Row → List Float
cells row = row.cells

zero_inside : (place : ℕ) → place < 16 → zero' ≡ cell_of place no_matrix
unfolding for_each
zero_inside place h = sym (get_or-replicate 16 place zero' nan h)

module _ (l : List Float) (room place : ℕ) where
  abbrev failed : ℕ
  failed = first_failed (normalize_tests l room)

  abbrev answer : Normalized
  answer = record { matrix = matrix_of (similarity_of (points l)) }

  abbrev cell : Float
  cell = cell_of place (if_passed failed answer.matrix no_matrix)

  pub cell_beyond : 16 ≤ place → nan ≡ cell
  unfolding matrix_of
  cell_beyond h = past cells 4 (λ n. n.matrix) no_matrix failed answer place (refl, (refl, (refl, (refl, tt)))) (refl, (refl, (refl, (refl, tt)))) h h

  pub cell_inside : {a : Normalized} → place < 16 → gives a ≡ normalize_answer l room → in_rows cells 4 (record { cells = [] }) place a.matrix ≡ cell
  unfolding normalize_answer matrix_of
  cell_inside h e = given cells 4 (λ n. n.matrix) no_matrix failed answer place (record { cells = [] }) (refl, (refl, (refl, (refl, tt)))) (omega arith) h e

  pub cell_refused : (e : Refusal) → place < 16 → refused (number_of e) ≡ normalize_answer l room → zero' ≡ cell
  unfolding normalize_answer
  cell_refused e h f = zero_inside place h ∙ refused_so cells 4 (λ n. n.matrix) no_matrix failed answer place e f
