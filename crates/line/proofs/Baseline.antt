-- Collinear in one pass: the points before the first that is apart from point 0, point 0 among them, are passed over. Assumes nothing.
use mathlib.Core.Path.{◌≡◌, refl, sym, ap, ◌∙◌}
use mathlib.Core.Bool.{Bool, true, false}
use mathlib.Core.Logic.{◌⊎◌, inl, inr, ⊎_elim}
use mathlib.Core.List.{List, [], ◌∷◌}
use Prim.Native.Nat.{ℕ, zero, suc, ◌+◌, ◌-◌, ◌*◌, ◌≤◌, ◌<◌}
use native.Mathlib.Numerals.{add-one}
use native.Mathlib.Nat.{mul-pos, zero-mul, zero-lt-suc, le_refl, sub_self}
use native.Mathlib.Omega.{arith}
use borrow.Author.Tests.{lt-ltb, le-ltb}
use lib.IntN.{ℤ}
use lib.ListN.{length, get_or, drop, drop_of_length-le}
use lib.Seq.{drop-cons}
use lib.Ieee.{Float, nan, inf, fin, binary64, up, down, of_bits, round, neg, sum, add, sub, mul, lt}
use lib.Ieee.Fits.{down_pos}
use lib.Ieee.Scale.{round_same}
use Rattle.std.specs.Prelude.{Option, Some, None}
use Rattle.std.specs.Option.{MatchOption}
use Rattle.std.specs.List.{range_with_len}
use Rattle.std.proofs.lemmas.Option.{MatchOption-at_none, MatchOption-at_some}
use Rattle.rule.specs.Arith.{◌⊕◌, ◌⊖◌, ◌⊗◌}
use Rattle.rule.specs.Lists.{every}
use Rattle.root.specs.Root.{root_of}
use Rattle.numbers.specs.Constants.{zero', same_point}
use Rattle.sheet.specs.Marks.{points, point_at, squared_apart}
use Rattle.sheet.specs.declared.marks.Point.{Point}
use Rattle.sheet.specs.declared.marks.Side.{Side}
use Rattle.sheet.proofs.Places.{no_point, point-read}
use Rattle.line.specs.Collinear.{apart, on_baseline, straight, collinear}

-- ---- a point is not apart from itself

-- nothing, or nothing that is a number
abbrev Nought : Float → Type 0
Nought x = (x ≡ nan) ⊎ (x ≡ zero')

zero_over : (c : ℕ) → 0 < c → round binary64 false 0 c ≡ zero'
unfolding round of_bits
zero_over c h = round_same binary64 false 0 c 0 1 h (zero-lt-suc 0) (rw (zero-mul c))

cancels : (s : Bool) (m : ℕ) (e : ℤ) → fin s m e ⊖ fin s m e ≡ zero'
unfolding sub add neg sum
cancels true m e =
    rw (le-ltb (m * up e * down e) (m * up e * down e) (le_refl (m * up e * down e)), sub_self (m * up e * down e)) (zero_over (down e * down e) (mul-pos (down_pos e) (down_pos e)))
cancels false m e =
    rw (le-ltb (m * up e * down e) (m * up e * down e) (le_refl (m * up e * down e)), sub_self (m * up e * down e)) (zero_over (down e * down e) (mul-pos (down_pos e) (down_pos e)))

minus_itself : (x : Float) → Nought (x ⊖ x)
unfolding sub add neg
minus_itself nan = inl refl
minus_itself (inf true) = inl refl
minus_itself (inf false) = inl refl
minus_itself (fin s m e) = inr (cancels s m e)

squared : {x : Float} → Nought x → Nought (x ⊗ x)
unfolding mul of_bits round
squared h = ⊎_elim (λ e. inl (rw e)) (λ e. inr (rw e)) h

added : {x y : Float} → Nought x → Nought y → Nought (x ⊕ y)
unfolding add of_bits sum round
added (inl d) h = inl (rw d)
added (inr d) (inl e) = inl (rw (d, e))
added (inr d) (inr e) = inr (rw (d, e))

not_far : {x : Float} → Nought x → lt same_point (root_of x) ≡ false
unfolding lt of_bits root_of
not_far h = ⊎_elim (λ e. rw e) (λ e. rw e) h

pub apart_itself : (p : Point) → apart p p ≡ false
unfolding apart squared_apart
apart_itself p = not_far (added (squared (minus_itself p.x)) (squared (minus_itself p.y)))

-- ---- the first point that is apart from p0, at place i: none of the points before it is

module _ (p0 d : Point) where
  abbrev pub Near : List Point → ℕ → Type 0
  Near ps i = (k : ℕ) → k < i → apart p0 (get_or ps k d) ≡ false

  -- it ends the baseline
  pub ended : (ps all : List Point) (i : ℕ) → i < length ps → Near ps i → apart p0 (get_or ps i d) ≡ true → straight p0 ps all ≡ every (on_baseline p0 (get_or ps i d)) all
  unfolding straight
  ended [] all i h n a = absurd (omega (arith, h))
  ended (p ∷ ps) all zero h n a = rw a
  ended (p ∷ ps) all (suc i) h n a = rw (n 0 (omega arith)) (ended ps all i (omega arith) (λ k l. n (suc k) (omega arith)) a)

  -- and where there is none, the points count as one
  pub together : (ps all : List Point) → Near ps (length ps) → straight p0 ps all ≡ true
  unfolding straight
  together [] all n = refl
  together (p ∷ ps) all n = rw (n 0 (omega arith)) (together ps all (λ k l. n (suc k) (omega arith)))

  -- the points before it are on every baseline
  near_passes : (q p : Point) → apart p0 p ≡ false → on_baseline p0 q p ≡ true
  unfolding on_baseline
  near_passes q p h = rw h

  pub passed_over : (q : Point) (ps : List Point) (i : ℕ) → Near ps i → every (on_baseline p0 q) (drop i ps) ≡ every (on_baseline p0 q) ps
  passed_over q ps zero n = refl
  passed_over q [] (suc i) n = refl
  passed_over q (p ∷ ps) (suc i) n = rw (near_passes q p (n 0 (omega arith))) (passed_over q ps i (λ k l. n (suc k) (omega arith)))

-- fewer than three points; or three or more, of which the first is p0
pub few-points : (ps : List Point) → length ps < 3 → false ≡ collinear ps
unfolding collinear
few-points [] h = refl
few-points (q ∷ later) h = rw (lt-ltb (suc (length later)) 3 h)

pub from_first : (ps : List Point) (d : Point) → 3 ≤ length ps → collinear ps ≡ straight (get_or ps 0 d) ps ps
unfolding collinear straight
from_first [] d h = absurd (omega (arith, h))
from_first (q ∷ later) d h = rw (le-ltb (suc (length later)) 3 h, apart_itself q)

-- ---- the points of one side, place by place

module _ (side : Side) (l : List Float) where
  -- a test of the points from place a on
  every_place : (test : Point → Bool) (a n : ℕ) → a + n ≡ length (points side l) → every (λ i. test (point_at side l i)) (range_with_len a n) ≡ every test (drop a (points side l))
  every_place test a zero h = rw (drop_of_length-le (points side l) {i = a} (omega (arith, h)))
  every_place test a (suc n) h =
      rw (drop-cons (points side l) a (no_point side) (omega (arith, h)), point-read side l a, every_place test (a + 1) n (omega (arith, h)), add-one a)

  -- none of the points before place i is apart from p0
  abbrev Passed : Point → ℕ → Type 0
  Passed p0 i = (k : ℕ) → 0 ≤ k → k < i → apart p0 (point_at side l k) ≡ false

  abbrev Ends : (n : ℕ) → Point → ℕ → Type 0
  Ends n p0 i = (0 ≤ i) × (i < n) × (apart p0 (point_at side l i) ≡ true) × Passed p0 i

  -- the place of the first of n points that is apart from p0
  abbrev pub First : (n : ℕ) → Point → Option ℕ → Type 0
  First n p0 found = MatchOption found (Passed p0 n) (Ends n p0)

  near : (p0 : Point) (i : ℕ) → Passed p0 i → Near p0 (no_point side) (points side l) i
  near p0 i passed k h = rw (point-read side l k) (passed k (omega arith) h)

  module _ {n : ℕ} (count : n ≡ length (points side l)) where
    pub line_few : n < 3 → false ≡ collinear (points side l)
    line_few h = few-points (points side l) (rw (← count) h)

    module _ (enough : 3 ≤ n) {p0 : Point} (at : p0 ≡ point_at side l 0) where
      start : collinear (points side l) ≡ straight p0 (points side l) (points side l)
      start = from_first (points side l) (no_point side) (rw (← count) enough) ∙ ap (λ p. straight p (points side l) (points side l)) (point-read side l 0 ∙ sym at)

      pub line_none : {found : Option ℕ} → First n p0 found → found ≡ None → true ≡ collinear (points side l)
      line_none first is =
          let passed = MatchOption-at_none (Passed p0 n) (Ends n p0) is first in
          sym (start ∙ together p0 (no_point side) (points side l) (points side l) (rw (← count) (near p0 n passed)))

      pub line_tested : {found : Option ℕ} {i : ℕ} {p1 : Point} {r : Bool} → First n p0 found → found ≡ Some i → p1 ≡ point_at side l i
          → r ≡ every (λ j. on_baseline p0 p1 (point_at side l j)) (range_with_len i (n - i)) → r ≡ collinear (points side l)
      line_tested {i = i} {p1 = p1} first is to e =
          let ends = MatchOption-at_some (Passed p0 n) (Ends n p0) i is first in
          e
          ∙ every_place (on_baseline p0 p1) i (n - i) (rw (← count) (omega (arith, ends.1)))
          ∙ passed_over p0 (no_point side) p1 (points side l) i (near p0 i ends.3)
          ∙ ap (λ q. every (on_baseline p0 q) (points side l)) (to ∙ sym (point-read side l i))
          ∙ sym (start ∙ ended p0 (no_point side) (points side l) (points side l) i (rw (← count) ends.1) (near p0 i ends.3) (rw (point-read side l i) ends.2))
