-- The order of clear floats is a total one: a comparison that fails turns round, and `lt` goes with `le` as it does among numbers. Assumes nothing.
use mathlib.Core.Path.{◌≡◌, refl}
use mathlib.Core.Bool.{Bool, true, false, ◌&&◌, ◌||◌}
use mathlib.Core.Logic.{⊎_elim}
use Prim.Native.Nat.{ℕ, ◌*◌, ◌≤◌, ◌<◌}
use native.Mathlib.Nat.{le_refl, le_of_lt, le_of_eq}
use native.Mathlib.Omega.{arith}
use borrow.Author.Tests.{ltb-true, ltb-false, lt-ltb, eq-eqb}
use lib.Dec.{T, ltb, eqb, ltb→lt, eqb→eq}
use lib.Ieee.{Float, nan, inf, fin, up, down, lt, le, eq}
use lib.Ieee.Fits.{down_pos, and_l}
use lib.Ieee.Positive.{through}
use Rattle.rule.proofs.Tests.{le_or_gt, or_left, either, clash, is_test}
use Rattle.rule.specs.Arith.{clear}

-- ---- the test `le` of two magnitudes

at_most : (a b : ℕ) → a ≤ b → T (ltb a b || (eqb a b && true))
at_most a b h = ⊎_elim (λ (g : b ≤ a). let e : a ≡ b = omega arith in rw (eq-eqb a b e) (or_true (ltb a b))) (λ (g : a < b). or_left (ltb a b) (eqb a b && true) (rw (lt-ltb a b g) tt)) (le_or_gt b a)
  where
    or_true : (t : Bool) → T (t || true)
    or_true true = tt
    or_true false = tt

pub is_at_most : (a b : ℕ) → T (ltb a b || (eqb a b && true)) → a ≤ b
is_at_most a b t = ⊎_elim (λ l. le_of_lt (ltb→lt a b l)) (λ e. le_of_eq (eqb→eq a b (and_l (eqb a b) true e))) (either (ltb a b) (eqb a b && true) t)

-- ---- the laws

pub le_same : (x : Float) → T (clear x) → T (le x x)
unfolding clear le lt eq
le_same nan c = absurd c
le_same (inf true) c = absurd c
le_same (inf false) c = tt
le_same (fin true m e) c = absurd c
le_same (fin false m e) c = at_most (m * up e * down e) (m * up e * down e) (le_refl (m * up e * down e))

pub lt_le : (x y : Float) → lt x y ≡ true → T (le x y)
unfolding le
lt_le x y h = rw h tt

pub not_lt : (x y : Float) → T (clear x) → T (clear y) → lt x y ≡ false → T (le y x)
unfolding clear le lt eq
not_lt nan y p q h = absurd p
not_lt (inf true) y p q h = absurd p
not_lt (inf false) nan p q h = absurd q
not_lt (inf false) (inf true) p q h = absurd q
not_lt (inf false) (inf false) p q h = tt
not_lt (inf false) (fin t n d) p q h = tt
not_lt (fin true m e) y p q h = absurd p
not_lt (fin false m e) nan p q h = absurd q
not_lt (fin false m e) (inf true) p q h = absurd q
not_lt (fin false m e) (inf false) p q h = clash refl h
not_lt (fin false m e) (fin true n d) p q h = absurd q
not_lt (fin false m e) (fin false n d) p q h = at_most (n * up d * down e) (m * up e * down d) (ltb-false (m * up e * down d) (n * up d * down e) h)

pub lt_not_eq : (x y : Float) → T (clear x) → T (clear y) → lt x y ≡ true → T (eq x y) → ⊥
unfolding clear lt eq
lt_not_eq nan y p q h k = p
lt_not_eq (inf true) y p q h k = p
lt_not_eq (inf false) nan p q h k = q
lt_not_eq (inf false) (inf t) p q h k = clash h refl
lt_not_eq (inf false) (fin t n d) p q h k = k
lt_not_eq (fin true m e) y p q h k = p
lt_not_eq (fin false m e) nan p q h k = q
lt_not_eq (fin false m e) (inf t) p q h k = k
lt_not_eq (fin false m e) (fin true n d) p q h k = q
lt_not_eq (fin false m e) (fin false n d) p q h k =
    let a = m * up e * down d in
    let b = n * up d * down e in
    let l : a < b = ltb-true a b h in
    let g : a ≡ b = eqb→eq a b (and_l (eqb a b) true k) in
    omega arith

-- three fractions, by their cross products
below_trans : (x y z p q r : ℕ) → 0 < r → x * q < y * p → y * r ≤ z * q → x * r < z * p
below_trans x y z p q r R h k = ⊎_elim (λ (g : z * p ≤ x * r). absurd (let l = through y z x q r p R k g in omega arith)) (λ g. g) (le_or_gt (z * p) (x * r))

pub lt_le_trans : (x y z : Float) → T (clear x) → T (clear y) → T (clear z) → lt x y ≡ true → T (le y z) → lt x z ≡ true
unfolding clear le lt eq
lt_le_trans nan y z p q r h k = absurd p
lt_le_trans (inf true) y z p q r h k = absurd p
lt_le_trans (inf false) nan z p q r h k = absurd q
lt_le_trans (inf false) (inf t) z p q r h k = clash h refl
lt_le_trans (inf false) (fin t n d) z p q r h k = clash h refl
lt_le_trans (fin true m e) y z p q r h k = absurd p
lt_le_trans (fin false m e) nan z p q r h k = absurd q
lt_le_trans (fin false m e) (inf t) nan p q r h k = absurd r
lt_le_trans (fin false m e) (inf t) (inf true) p q r h k = absurd r
lt_le_trans (fin false m e) (inf t) (inf false) p q r h k = refl
lt_le_trans (fin false m e) (inf true) (fin u l f) p q r h k = absurd q
lt_le_trans (fin false m e) (inf false) (fin u l f) p q r h k = absurd k
lt_le_trans (fin false m e) (fin true n d) z p q r h k = absurd q
lt_le_trans (fin false m e) (fin false n d) nan p q r h k = absurd r
lt_le_trans (fin false m e) (fin false n d) (inf true) p q r h k = absurd r
lt_le_trans (fin false m e) (fin false n d) (inf false) p q r h k = refl
lt_le_trans (fin false m e) (fin false n d) (fin true l f) p q r h k = absurd r
lt_le_trans (fin false m e) (fin false n d) (fin false l f) p q r h k =
    lt-ltb (m * up e * down f) (l * up f * down e)
    (below_trans (m * up e) (n * up d) (l * up f) (down e) (down d) (down f) (down_pos f) (ltb-true (m * up e * down d) (n * up d * down e) h) (is_at_most (n * up d * down f) (l * up f * down d) k))

lt_self : (x : Float) → T (clear x) → lt x x ≡ true → ⊥
unfolding clear lt
lt_self nan c h = absurd c
lt_self (inf true) c h = absurd c
lt_self (inf false) c h = clash h refl
lt_self (fin true m e) c h = absurd c
lt_self (fin false m e) c h =
    let l : m * up e * down e < m * up e * down e = ltb-true (m * up e * down e) (m * up e * down e) h in
    omega arith

pub lt_not_le : (x y : Float) → T (clear x) → T (clear y) → lt x y ≡ true → le y x ≡ false
lt_not_le x y p q h = go (le y x) refl
  where
    go : (b : Bool) → le y x ≡ b → b ≡ false
    go true g = absurd (lt_self x p (lt_le_trans x y x p q p h (is_test (le y x) g)))
    go false g = refl

pub le_trans_clear : (x y z : Float) → T (clear x) → T (clear y) → T (clear z) → T (le x y) → T (le y z) → T (le x z)
le_trans_clear x y z p q r h k = go (lt z x) refl
  where
    go : (b : Bool) → lt z x ≡ b → T (le x z)
    go true g = absurd (lt_self z r (lt_le_trans z y z r q r (lt_le_trans z x y r p q g h) k))
    go false g = not_lt z x r p g

pub le_infinity : (x : Float) → T (clear x) → T (le x (inf false))
unfolding clear le lt eq
le_infinity nan c = absurd c
le_infinity (inf true) c = absurd c
le_infinity (inf false) c = tt
le_infinity (fin s m e) c = tt

-- what is above a clear float is clear
pub over_clear : (x t : Float) → T (clear x) → lt x t ≡ true → T (clear t)
unfolding clear lt
over_clear nan t c h = absurd c
over_clear (inf true) t c h = absurd c
over_clear (inf false) nan c h = clash h refl
over_clear (inf false) (inf t) c h = clash h refl
over_clear (inf false) (fin t n d) c h = clash h refl
over_clear (fin true m e) t c h = absurd c
over_clear (fin false m e) nan c h = clash h refl
over_clear (fin false m e) (inf true) c h = clash h refl
over_clear (fin false m e) (inf false) c h = tt
over_clear (fin false m e) (fin true n d) c h = clash h refl
over_clear (fin false m e) (fin false n d) c h = tt
