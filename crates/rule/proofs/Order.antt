-- A refusal order, test by test: the first that fails answers, and one that passes leaves the answer to the rest. Assumes nothing.
use mathlib.Core.Path.{◌≡◌, refl, sym, ◌∙◌}
use mathlib.Core.Bool.{Bool, true, false, ◌&&◌, cond}
use mathlib.Core.List.{List, [], ◌∷◌, ◌++◌}
use Prim.Native.Nat.{ℕ, zero, suc}
use native.Mathlib.Omega.{arith}
use lib.Dec.{T, ltb, eqb, eqb-suc-zero}
use lib.Ieee.Fits.{and_i, and_l, and_r}
use Rattle.rule.specs.Answer.{refused, gives}
use Rattle.rule.specs.Order.{Test, first_failed, decided, if_passed}

-- ---- one test

pub stops : (t : Test) (ts : List Test) → t.fails ≡ true → t.number ≡ first_failed (t ∷ ts)
unfolding first_failed
stops t ts h = rw h

pub passes : (t : Test) (ts : List Test) → t.fails ≡ false → first_failed ts ≡ first_failed (t ∷ ts)
unfolding first_failed
passes t ts h = rw h

-- ---- the tests that orders begin with, as one. Each of their numbers is above 0, so 0 says that all of them passed.

unfoldable pub numbered : List Test → Bool
numbered [] = true
numbered (t ∷ ts) = ltb 0 t.number && numbered ts

above_zero : {A : Type 0} (k : ℕ) → T (ltb 0 k) → k ≡ 0 → A
above_zero zero h e = absurd h
above_zero (suc k) h e = absurd (omega (arith, e))

pub all_passed : (ts us : List Test) → T (numbered ts) → first_failed ts ≡ 0 → first_failed us ≡ first_failed (ts ++ us)
unfolding first_failed numbered
all_passed [] us p h = refl
all_passed (t ∷ ts) us p h = go t.fails (λ e. all_passed ts us (and_r (ltb 0 t.number) (numbered ts) p) e) h
  where
    go : (b : Bool) → (first_failed ts ≡ 0 → first_failed us ≡ first_failed (ts ++ us)) → cond b t.number (first_failed ts) ≡ 0
        → first_failed us ≡ cond b t.number (first_failed (ts ++ us))
    go true rest e = above_zero t.number (and_l (ltb 0 t.number) (numbered ts) p) e
    go false rest e = rest e

pub one_failed : (ts us : List Test) → (first_failed ts ≡ 0 → ⊥) → first_failed ts ≡ first_failed (ts ++ us)
unfolding first_failed
one_failed [] us h = absurd (h refl)
one_failed (t ∷ ts) us h = go t.fails (λ e. one_failed ts us e) h
  where
    go : (b : Bool) → ((first_failed ts ≡ 0 → ⊥) → first_failed ts ≡ first_failed (ts ++ us)) → (cond b t.number (first_failed ts) ≡ 0 → ⊥)
        → cond b t.number (first_failed ts) ≡ cond b t.number (first_failed (ts ++ us))
    go true rest e = refl
    go false rest e = rest e

-- where no test of both failed, none of the first did
pub none_failed : (ts us : List Test) → first_failed (ts ++ us) ≡ 0 → first_failed ts ≡ 0
none_failed ts us h = go (first_failed ts) refl
  where
    go : (k : ℕ) → first_failed ts ≡ k → first_failed ts ≡ 0
    go zero e = e
    go (suc k) e = one_failed ts us (λ z. absurd (let y = sym e ∙ z in omega (arith, y))) ∙ h

-- the number of tests and of others after them
pub front : (ts us : List Test) → T (numbered ts) → first_failed (ts ++ us) ≡ cond (eqb (first_failed ts) 0) (first_failed us) (first_failed ts)
front ts us p = go (first_failed ts) refl
  where
    go : (k : ℕ) → first_failed ts ≡ k → first_failed (ts ++ us) ≡ cond (eqb k 0) (first_failed us) k
    go zero e = sym (all_passed ts us p e)
    go (suc k) e = rw (eqb-suc-zero k) (sym (one_failed ts us (λ z. cc)) ∙ e)

pub numbered_append : (ts us : List Test) → T (numbered ts) → T (numbered us) → T (numbered (ts ++ us))
unfolding numbered
numbered_append [] us p q = q
numbered_append (t ∷ ts) us p q =
    and_i (ltb 0 t.number) (numbered (ts ++ us)) (and_l (ltb 0 t.number) (numbered ts) p) (numbered_append ts us (and_r (ltb 0 t.number) (numbered ts) p) q)

-- where no test failed, the first one passed
pub first_passed : (t : Test) (ts : List Test) → T (ltb 0 t.number) → first_failed (t ∷ ts) ≡ 0 → (t.fails ≡ false) × (first_failed ts ≡ 0)
unfolding first_failed
first_passed t ts p h = go t.fails h
  where
    go : (b : Bool) → cond b t.number (first_failed ts) ≡ 0 → (b ≡ false) × (first_failed ts ≡ 0)
    go true e = above_zero t.number p e
    go false e = (refl, e)

-- ---- what the number decides

pub decided-none : {A : Type 0} {k : ℕ} (a : A) → 0 ≡ k → gives a ≡ decided k a
unfolding decided
decided-none a h = rw (sym h)

pub decided_some : {A : Type 0} (k : ℕ) (a : A) → (k ≡ 0 → ⊥) → refused k ≡ decided k a
unfolding decided
decided_some zero a h = absurd (h refl)
decided_some (suc k) a h = refl

pub done : {A : Type 0} {k : ℕ} (a b : A) → 0 ≡ k → a ≡ if_passed k a b
unfolding if_passed
done a b h = rw (sym h)

pub kept : {A : Type 0} (k : ℕ) (a b : A) → (k ≡ 0 → ⊥) → b ≡ if_passed k a b
unfolding if_passed
kept zero a b h = absurd (h refl)
kept (suc k) a b h = refl

-- and what the answer says of the number
pub decided-gives : {A : Type 0} (k : ℕ) {a b : A} → gives b ≡ decided k a → (k ≡ 0) × (b ≡ a)
unfolding decided
decided-gives zero h = (refl, cc)
decided-gives (suc k) h = cc

pub decided-refused : {A : Type 0} (k : ℕ) (a : A) {j : ℕ} → refused j ≡ decided k a → (j ≡ k) × (k ≡ 0 → ⊥)
unfolding decided
decided-refused zero a h = cc
decided-refused (suc k) a h = (cc, λ e. absurd (omega (arith, e)))
