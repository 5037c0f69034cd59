-- The rows of the marks in the lent list, eighteen places each. Assumes nothing.
use mathlib.Core.Path.{◌≡◌, refl, ap, ◌∙◌}
use mathlib.Core.List.{List, [], ◌∷◌, ◌++◌}
use Prim.Native.Nat.{ℕ, ◌+◌, ◌-◌, ◌*◌, ◌≤◌, ◌<◌}
use native.Mathlib.Numerals.{add-one}
use native.Mathlib.Omega.{arith}
use borrow.Rule.Slice.PartMut.{put_mid}
use lib.ListN.{length, set, replicate}
use lib.Ieee.{Float}
use Rattle.rule.specs.Lists.{replaced}
use Rattle.numbers.specs.Constants.{zero'}
use Rattle.sheet.specs.Marks.{marks_of, mark_at, point_of, no_mark}
use Rattle.sheet.specs.declared.marks.Mark.{Mark}
use Rattle.sheet.specs.declared.marks.Point.{Point}
use Rattle.sheet.specs.declared.marks.Side.TheVariants.{Sheet, Pixel}
use Rattle.linalg.specs.Normalize.{normalized_by}
use Rattle.linalg.specs.declared.Change.{Change}
use Rattle.linalg.proofs.Writing as Writing
use Rattle.homography.specs.Rows.{row_at, u_row, v_row, mark_rows, rows_list}

-- ---- one row: zeros, then three places from `at` on, then the last three

pub stored : (at : ℕ) (a b c d e f : Float) → at + 3 ≤ 6
    → set (set (set (set (set (set (replicate 9 zero') at a) (at + 1) b) (at + 2) c) 6 d) 7 e) 8 f ≡ replaced at (a ∷ b ∷ c ∷ []) (zero' ∷ zero' ∷ zero' ∷ zero' ∷ zero' ∷ zero' ∷ []) ++ (d ∷ e ∷ f ∷ [])
stored at a b c d e f h = rw (add-one at, Writing.two_on at) (Writing.row_stored 6 at (a ∷ b ∷ c ∷ []) (d ∷ e ∷ f ∷ []) zero' h)

-- ---- one mark: a row's part after the other's

first_third : (p : Point) (u : Float) → row_at 0 p u ≡ u_row p u
unfolding row_at u_row replaced
first_third p u = refl

second_third : (p : Point) (v : Float) → row_at 3 p v ≡ v_row p v
unfolding row_at v_row replaced
second_third p v = refl

u_wide : (p : Point) (u : Float) → length (u_row p u) ≡ 9
unfolding u_row
u_wide p u = refl

v_wide : (p : Point) (v : Float) → length (v_row p v) ≡ 9
unfolding v_row
v_wide p v = refl

module _ (i : ℕ) (p q : Point) (s : List Float) (room : 18 * i + 18 ≤ length s) where
  pub two_rows : {a b : List Float} → a ≡ row_at 0 p q.x → b ≡ row_at 3 p q.y
      → put_mid (9 * (2 * i) + 9) (9 * (2 * i) + 9 + 9 - (9 * (2 * i) + 9)) (put_mid (9 * (2 * i)) (9 * (2 * i) + 9 - 9 * (2 * i)) s a) b ≡ replaced (18 * i) (u_row p q.x ++ v_row p q.y) s
  two_rows d e =
      let at : 9 * (2 * i) ≡ 18 * i = omega arith in
      rw (d, e, first_third p q.x, second_third p q.y)
      (Writing.two_parts (9 * (2 * i)) 9 (u_row p q.x) (v_row p q.y) s (u_wide p q.x) (v_wide p q.y) (omega (arith, room)) ∙ ap (λ k. replaced k (u_row p q.x ++ v_row p q.y) s) at)

-- ---- all marks

rows_wide : (sheet pixel : Change) (m : Mark) → length (mark_rows sheet pixel m) ≡ 18
unfolding mark_rows u_row v_row
rows_wide sheet pixel m = refl

-- the lent list after the rows of the first i marks
abbrev pub written : Change → Change → List Float → List Float → ℕ → List Float
written sheet pixel l entry i = Writing.written (mark_rows sheet pixel) 18 (marks_of l) entry i

module _ (sheet pixel : Change) (l entry : List Float) where
  pub written_none : written sheet pixel l entry 0 ≡ entry
  written_none = Writing.written_none (mark_rows sheet pixel) 18 (marks_of l) entry (rows_wide sheet pixel)

  pub written_more : (i : ℕ) → i < length (marks_of l)
      → let p = normalized_by sheet (point_of Sheet (mark_at l i)) in
      let q = normalized_by pixel (point_of Pixel (mark_at l i)) in
      written sheet pixel l entry (i + 1) ≡ replaced (18 * i) (u_row p q.x ++ v_row p q.y) (written sheet pixel l entry i)
  unfolding mark_rows mark_at
  written_more = Writing.written_more (mark_rows sheet pixel) 18 (marks_of l) entry (rows_wide sheet pixel) no_mark (mark_at l) (λ i. refl)

  pub written_all : rows_list sheet pixel l entry ≡ written sheet pixel l entry (length (marks_of l))
  unfolding rows_list
  written_all = Writing.written_all (mark_rows sheet pixel) 18 (marks_of l) entry
