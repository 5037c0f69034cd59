-- The rows of the marks in the lent list, twenty-four places each. Assumes nothing.
use mathlib.Core.Path.{◌≡◌, refl, ap, ◌∙◌}
use mathlib.Core.List.{List, [], ◌∷◌, ◌++◌}
use Prim.Native.Nat.{ℕ, ◌+◌, ◌-◌, ◌*◌, ◌≤◌, ◌<◌}
use native.Mathlib.Numerals.{add-one}
use native.Mathlib.Omega.{arith}
use borrow.Rule.Slice.PartMut.{put_mid}
use lib.ListN.{length, set, replicate}
use lib.Ieee.{Float}
use Rattle.rule.specs.Lists.{replaced}
use Rattle.numbers.specs.Constants.{zero'}
use Rattle.form.specs.Marks.{marks_of, mark_at, point_of, pixel_of, no_mark}
use Rattle.form.specs.declared.marks.Mark.{Mark}
use Rattle.form.specs.declared.marks.Point.{Point}
use Rattle.form.specs.declared.marks.Pixel.{Pixel}
use Rattle.linalg.proofs.Writing as Writing
use Rattle.linalg_3d.specs.Normalize.{normalized_by}
use Rattle.linalg_3d.specs.declared.Change.{Change}
use Rattle.dlt.specs.Rows.{row_at, u_row, v_row, mark_rows, rows_list}

-- ---- one row: zeros, then four places from `at` on, then the last four

pub stored : (at : ℕ) (a b c d e f g h : Float) → at + 4 ≤ 8
    → set (set (set (set (set (set (set (set (replicate 12 zero') at a) (at + 1) b) (at + 2) c) (at + 3) d) 8 e) 9 f) 10 g) 11 h
    ≡ replaced at (a ∷ b ∷ c ∷ d ∷ []) (zero' ∷ zero' ∷ zero' ∷ zero' ∷ zero' ∷ zero' ∷ zero' ∷ zero' ∷ []) ++ (e ∷ f ∷ g ∷ h ∷ [])
stored at a b c d e f g h k = rw (add-one at, Writing.two_on at, Writing.three_on at) (Writing.row_stored 8 at (a ∷ b ∷ c ∷ d ∷ []) (e ∷ f ∷ g ∷ h ∷ []) zero' k)

-- ---- one mark: a row's part after the other's

first_half : (p : Point) (u : Float) → row_at 0 p u ≡ u_row p u
unfolding row_at u_row replaced
first_half p u = refl

second_half : (p : Point) (v : Float) → row_at 4 p v ≡ v_row p v
unfolding row_at v_row replaced
second_half p v = refl

u_wide : (p : Point) (u : Float) → length (u_row p u) ≡ 12
unfolding u_row
u_wide p u = refl

v_wide : (p : Point) (v : Float) → length (v_row p v) ≡ 12
unfolding v_row
v_wide p v = refl

module _ (i : ℕ) (p : Point) (q : Pixel) (s : List Float) (room : 24 * i + 24 ≤ length s) where
  pub two_rows : {a b : List Float} → a ≡ row_at 0 p q.u → b ≡ row_at 4 p q.v
      → put_mid (12 * (2 * i) + 12) (12 * (2 * i) + 12 + 12 - (12 * (2 * i) + 12)) (put_mid (12 * (2 * i)) (12 * (2 * i) + 12 - 12 * (2 * i)) s a) b
      ≡ replaced (24 * i) (u_row p q.u ++ v_row p q.v) s
  two_rows d e =
      let at : 12 * (2 * i) ≡ 24 * i = omega arith in
      rw (d, e, first_half p q.u, second_half p q.v)
      (Writing.two_parts (12 * (2 * i)) 12 (u_row p q.u) (v_row p q.v) s (u_wide p q.u) (v_wide p q.v) (omega (arith, room)) ∙ ap (λ k. replaced k (u_row p q.u ++ v_row p q.v) s) at)

-- ---- all marks

rows_wide : (c : Change) (m : Mark) → length (mark_rows c m) ≡ 24
unfolding mark_rows u_row v_row
rows_wide c m = refl

-- the lent list after the rows of the first i marks
abbrev pub written : Change → List Float → List Float → ℕ → List Float
written c l entry i = Writing.written (mark_rows c) 24 (marks_of l) entry i

module _ (c : Change) (l entry : List Float) where
  pub written_none : written c l entry 0 ≡ entry
  written_none = Writing.written_none (mark_rows c) 24 (marks_of l) entry (rows_wide c)

  pub written_more : (i : ℕ) → i < length (marks_of l)
      → let p = normalized_by c (point_of (mark_at l i)) in
      let q = pixel_of (mark_at l i) in
      written c l entry (i + 1) ≡ replaced (24 * i) (u_row p q.u ++ v_row p q.v) (written c l entry i)
  unfolding mark_rows mark_at
  written_more = Writing.written_more (mark_rows c) 24 (marks_of l) entry (rows_wide c) no_mark (mark_at l) (λ i. refl)

  pub written_all : rows_list c l entry ≡ written c l entry (length (marks_of l))
  unfolding rows_list
  written_all = Writing.written_all (mark_rows c) 24 (marks_of l) entry
