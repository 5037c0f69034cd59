-- Bit patterns of finite doubles that are not negative: what number each stands for, in units of 2 ^ -1074, and that the patterns stand in the
-- numbers' order. On patterns a double's neighbours are one less and one more. Assumes nothing.
use mathlib.Core.Path.{◌≡◌, refl, ap}
use mathlib.Core.Logic.{⊎_elim}
use Prim.Native.Nat.{ℕ, suc, ◌+◌, ◌-◌, ◌*◌, ◌/◌, ◌%◌, ◌^◌, ◌≤◌, ◌<◌}
use native.Mathlib.Nat.{le_trans, le_refl, suc-mul, pow-suc}
use native.Mathlib.Decide.{le_ind}
use native.Mathlib.Omega.{arith}
use borrow.Author.Tests.{lt-ltb, le-ltb}
use lib.Count.{count_leading_zeros, leading_top}
use lib.Pow.{pow_mono}
use Rattle.rule.proofs.Tests.{le_or_gt}
use Rattle.root.specs.Root.{significand, exponent}

-- the number that the pattern stands for
unfoldable pub value : ℕ → ℕ
value b = significand b * 2 ^ exponent b

-- ---- the two fields

pub significand-low : (b : ℕ) → b < 2 ^ 52 → significand b ≡ b
unfolding significand
significand-low b h = simp (lt-ltb b (2 ^ 52) h)

pub significand-high : (b : ℕ) → 2 ^ 52 ≤ b → significand b ≡ 2 ^ 52 + b % 2 ^ 52
unfolding significand
significand-high b h = simp (le-ltb b (2 ^ 52) h)

pub exponent_is : (b : ℕ) → exponent b ≡ b / 2 ^ 52 - 1
unfolding exponent
exponent_is b = refl

pub significand_lt : (b : ℕ) → significand b < 2 ^ 53
significand_lt b =
    ⊎_elim (λ (h : 2 ^ 52 ≤ b). let e = significand-high b h in omega arith) (λ (h : b < 2 ^ 52). let e = significand-low b h in omega arith)
    (le_or_gt (2 ^ 52) b)

pub significand_pos : (b : ℕ) → 0 < b → 0 < significand b
significand_pos b p =
    ⊎_elim (λ (h : 2 ^ 52 ≤ b). let e = significand-high b h in omega arith) (λ (h : b < 2 ^ 52). let e = significand-low b h in omega arith)
    (le_or_gt (2 ^ 52) b)

-- ---- the next pattern stands for the next number: one more in the last place
same_place : (b : ℕ) → significand (suc b) ≡ suc (significand b) → exponent (suc b) ≡ exponent b → value (suc b) ≡ value b + 2 ^ exponent b
unfolding value
same_place b m e = rw (m, e) (suc-mul (significand b) (2 ^ exponent b))

next_place : (b : ℕ) → significand b ≡ 2 ^ 53 - 1 → significand (suc b) ≡ 2 ^ 52 → exponent (suc b) ≡ suc (exponent b) → value (suc b) ≡ value b + 2 ^ exponent b
unfolding value
next_place b m n e =
    let p : 2 ^ suc (exponent b) ≡ 2 ^ exponent b * 2 = pow-suc 2 (exponent b) in
    rw (m, n, e) (omega arith)

pub value_next : (b : ℕ) → value (suc b) ≡ value b + 2 ^ exponent b
value_next b = ⊎_elim low high (le_or_gt b (2 ^ 52 - 1))
  where
    e : exponent b ≡ b / 2 ^ 52 - 1
    e = exponent_is b

    e' : exponent (suc b) ≡ suc b / 2 ^ 52 - 1
    e' = exponent_is (suc b)

    low : b ≤ 2 ^ 52 - 1 → value (suc b) ≡ value b + 2 ^ exponent b
    low h =
        let m = significand-low b (omega arith) in
        let n : significand (suc b) ≡ suc b = ⊎_elim (λ (g : 2 ^ 52 ≤ suc b). let k = significand-high (suc b) g in omega arith) (λ (g : suc b < 2 ^ 52). significand-low (suc b) g) (le_or_gt (2 ^ 52) (suc b)) in
        same_place b (omega arith) (omega (arith, e, e'))

    high : 2 ^ 52 - 1 < b → value (suc b) ≡ value b + 2 ^ exponent b
    high h =
        let m = significand-high b (omega arith) in
        let n = significand-high (suc b) (omega arith) in
        ⊎_elim (λ (g : b % 2 ^ 52 + 1 ≤ 2 ^ 52 - 1). same_place b (omega arith) (omega (arith, e, e'))) (λ (g : 2 ^ 52 - 1 < b % 2 ^ 52 + 1). next_place b (omega arith) (omega arith) (omega (arith, e, e')))
        (le_or_gt (b % 2 ^ 52 + 1) (2 ^ 52 - 1))

pub value_mono : {b c : ℕ} → b ≤ c → value b ≤ value c
value_mono {b} {c} h = le_ind (λ (k : ℕ). value b ≤ value k) (le_refl (value b)) (λ k g l. let e = value_next k in omega arith) c h

-- ---- a pattern made of an exponent and a significand, the leading digit counted. At 2 ^ 53 it has carried into the exponent, and is right all the same

pub exponent-made : (h n : ℕ) → 2 ^ 52 ≤ n → n < 2 ^ 53 → exponent (h * 2 ^ 52 + n) ≡ h
exponent-made h n l u = let e = exponent_is (h * 2 ^ 52 + n) in omega arith

pub value_made : (h n : ℕ) → 2 ^ 52 ≤ n → n ≤ 2 ^ 53 → value (h * 2 ^ 52 + n) ≡ n * 2 ^ h
unfolding value
value_made h n l u = ⊎_elim carried kept (le_or_gt (2 ^ 53) n)
  where
    m : significand (h * 2 ^ 52 + n) ≡ 2 ^ 52 + (h * 2 ^ 52 + n) % 2 ^ 52
    m = significand-high (h * 2 ^ 52 + n) (omega arith)

    kept : n < 2 ^ 53 → value (h * 2 ^ 52 + n) ≡ n * 2 ^ h
    kept g =
        let k : significand (h * 2 ^ 52 + n) ≡ n = omega (arith, m) in
        rw (exponent-made h n l g, k)

    carried : 2 ^ 53 ≤ n → value (h * 2 ^ 52 + n) ≡ n * 2 ^ h
    carried g =
        let k : significand (h * 2 ^ 52 + n) ≡ 2 ^ 52 = omega (arith, m) in
        let e : exponent (h * 2 ^ 52 + n) ≡ suc h = omega (arith, exponent_is (h * 2 ^ 52 + n)) in
        let w : n ≡ 2 ^ 53 = omega arith in
        let p : 2 ^ suc h ≡ 2 ^ h * 2 = pow-suc 2 h in
        let q : n * 2 ^ h ≡ 2 ^ 53 * 2 ^ h = ap (λ (x : ℕ). x * 2 ^ h) w in
        rw (k, e) (omega arith)

-- ---- the leading zeros of a significand
pub zeros_bounds : (m : ℕ) → 0 < m → m < 2 ^ 53 → (11 ≤ count_leading_zeros 64 m) × (count_leading_zeros 64 m ≤ 63)
zeros_bounds m p h =
    let t = leading_top 64 m p (omega arith) in
    let e = t.1 in
    let j : t.0 < 53 = ⊎_elim (λ (g : 53 ≤ t.0). absurd (let l = le_trans (pow_mono g) t.2 in omega arith)) (λ g. g) (le_or_gt 53 t.0) in
    (omega arith, omega arith)

-- a normal double's significand has 53 digits
pub no_zeros : (m : ℕ) → 2 ^ 52 ≤ m → m < 2 ^ 53 → count_leading_zeros 64 m ≡ 11
no_zeros m l h =
    let t = leading_top 64 m (omega arith) (omega arith) in
    let e = t.1 in
    let z = zeros_bounds m (omega arith) h in
    let j : 51 < t.0 = ⊎_elim (λ (g : t.0 ≤ 51). absurd (let a = pow_mono {j = 52} (Prim.Native.Nat.suc-le-suc g) in let b = t.3 in omega arith)) (λ g. g) (le_or_gt t.0 51) in
    omega arith
